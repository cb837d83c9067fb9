-- Turns of a feed, one by one: what was handed out is what is read in all that was given.
use Rattle.std.specs.Prelude.{◌≡◌, ℕ, ◌≤◌, List, [], ◌∷◌, ◌++◌, length, drop, Option, None, Some, Result, Ok, Err}
use Rattle.std.proofs.Common.{refl, sym, ap, subst, ◌∙◌, append_assoc}
use Rattle.std.proofs.lemmas.List.{drop-append-le}
use Rattle.send_model.specs.Refusal.{Refusal}
use Rattle.tlv_frame.specs.Feeding.{Fed, Handed, unfed, handed, next_of, after, fed_after, fed_with}
use Rattle.tlv_frame.specs.Cuts.{Turn, Given, Asked, LeadTo, all_given, all_handed, AreRead, CutsAreOneReading}
use Rattle.tlv_frame.proofs.Growing.{is_cut, handed_grows, handed_within, handed_next, refused_next, waits_next}

-- A refusal that a feed keeps is that of its bytes, whatever follows them.
IsRight : Fed → Type 0
IsRight fed = (refusal : Refusal) → fed.refused ≡ Some refusal → (more : List ℕ) → handed fed.due (fed.left ++ more) ≡ Err refusal

same_given : (fed : Fed) (piece : List ℕ) → IsRight fed → IsRight (fed_with piece fed)
unfolding IsRight
same_given fed piece right refusal is more = ap (handed fed.due) (append_assoc fed.left piece more) ∙ right refusal is (piece ++ more)

refusal_stays : (fed : Fed) (refusal : Refusal) → IsRight fed → next_of fed ≡ Err refusal → (more : List ℕ) → handed fed.due (fed.left ++ more) ≡ Err refusal
unfolding IsRight
refusal_stays fed refusal right e more = by_refused fed.refused refl
  where
    kept : (r : Refusal) → fed.refused ≡ Some r → handed fed.due (fed.left ++ more) ≡ Err refusal
    kept r is =
        let stays : next_of fed ≡ Err r = ap (λ (o : Option Refusal). elim o as (λ x. Result (Option Handed) Refusal) [ None ↦ next_of (record fed { refused = None }) | Some s ↦ Err s ]) is in
        let inner : Result (Option Handed) Refusal → Result Handed Refusal = λ x. elim x [ Ok y ↦ Err refusal | Err s ↦ Err s ] in
        right r is more ∙ ap inner (sym stays ∙ e)

    by_refused : (o : Option Refusal) → fed.refused ≡ o → handed fed.due (fed.left ++ more) ≡ Err refusal
    by_refused (Some r) is = kept r is
    by_refused None is =
        let here = refused_next fed refusal is e in
        handed_grows fed.due fed.left more (ap is_cut here.0 ∙ here.1) ∙ here.0

next_grows : (fed : Fed) (h : Handed) → next_of fed ≡ Ok (Some h) → (more : List ℕ) → handed fed.due (fed.left ++ more) ≡ Ok h
next_grows fed h e more = let here = (handed_next fed h e).1 in handed_grows fed.due fed.left more (ap is_cut here) ∙ here

-- What is read from the feed's bytes and all that is given then.
record Goes (old : Fed) (turns : List Turn) (new : Fed) (more : List ℕ) : Type 0 where
  units : AreRead old.due (old.left ++ (all_given turns ++ more)) (all_handed turns) new.due (new.left ++ more)
  right : IsRight new

-- The same after an answer, whatever comes then.
asked : (old : Fed) (answer : Result (Option Handed) Refusal) (turns : List Turn) (new : Fed) (more : List ℕ) → IsRight old → answer ≡ next_of old → ((fed : Fed) → IsRight fed → LeadTo fed turns new → Goes fed turns new more) → LeadTo (fed_after old) turns new
    → Goes old (Asked answer ∷ turns) new more
unfolding IsRight
asked old answer turns new more right same onward lead = by_next (next_of old) refl
  where
    by_next : (r : Result (Option Handed) Refusal) → next_of old ≡ r → Goes old (Asked answer ∷ turns) new more
    by_next (Ok None) e =
        let stays : fed_after old ≡ old = ap (after old) e in
        let g = onward old right (subst (λ (f : Fed). LeadTo f turns new) stays lead) in
        subst (λ (r : Result (Option Handed) Refusal). Goes old (Asked r ∷ turns) new more) (sym (same ∙ e)) (record { units = g.units; right = g.right })
    by_next (Ok (Some h)) e =
        let all : List ℕ = all_given turns ++ more in
        let next : Fed = after old (Ok (Some h)) in
        let moves : fed_after old ≡ next = ap (after old) e in
        let none : IsRight next = λ refusal is. cc in
        let g = onward next none (subst (λ (f : Fed). LeadTo f turns new) moves lead) in
        let within : h.taken ≤ length old.left = handed_within old.due old.left h (handed_next old h e).1 in
        let behind : drop h.taken old.left ++ all ≡ drop h.taken (old.left ++ all) = sym (drop-append-le h.taken old.left all within) in
        subst (λ (r : Result (Option Handed) Refusal). Goes old (Asked r ∷ turns) new more) (sym (same ∙ e))
        (record { units = (next_grows old h e all, subst (λ (l : List ℕ). AreRead h.due l (all_handed turns) new.due (new.left ++ more)) behind g.units); right = g.right })
    by_next (Err refusal) e =
        let next : Fed = after old (Err refusal) in
        let moves : fed_after old ≡ next = ap (after old) e in
        let inner : Option Refusal → Refusal = λ o. elim o [ None ↦ refusal | Some r ↦ r ] in
        let kept : IsRight next = λ r is bytes. refusal_stays old refusal right e bytes ∙ ap (λ (x : Refusal). Err x) (ap inner is) in
        let g = onward next kept (subst (λ (f : Fed). LeadTo f turns new) moves lead) in
        subst (λ (r : Result (Option Handed) Refusal). Goes old (Asked r ∷ turns) new more) (sym (same ∙ e)) (record { units = g.units; right = g.right })

goes : (old : Fed) (turns : List Turn) (new : Fed) (more : List ℕ) → IsRight old → LeadTo old turns new → Goes old turns new more
goes old [] new more right same = let G : Fed → Type 0 = λ fed. Goes old [] fed more in subst G same (record { units = (refl, refl); right = right })
goes old (Given piece ∷ turns) new more right lead =
    let g = goes (fed_with piece old) turns new more (same_given old piece right) lead in
    let bytes : (old.left ++ piece) ++ (all_given turns ++ more) ≡ old.left ++ ((piece ++ all_given turns) ++ more) = append_assoc old.left piece (all_given turns ++ more) ∙ ap (λ (l : List ℕ). old.left ++ l) (sym (append_assoc piece (all_given turns) more)) in
    record { units = subst (λ (l : List ℕ). AreRead old.due l (all_handed turns) new.due (new.left ++ more)) bytes g.units; right = g.right }
goes old (Asked answer ∷ turns) new more right lead = asked old answer turns new more right lead.0 (λ fed r l. goes fed turns new more r l) lead.1

pub one_reading : CutsAreOneReading
unfolding IsRight
one_reading turns fed more lead =
    let g = goes unfed turns fed more (λ refusal is. cc) lead in
    record {
      units = g.units;
      next = λ h e. next_grows fed h e more;
      refused = λ refusal e. refusal_stays fed refusal g.right e more;
      waits = λ e. (waits_next fed e).1;
    }
