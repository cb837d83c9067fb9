-- Commands of lists that are joined; what is taken before the first head; and that no front part of
-- a stream is read as whole before its END.
use Rattle.std.specs.Prelude.{◌≡◌, ℕ, zero, suc, ◌<◌, ◌≤◌, true, List, [], ◌∷◌, ◌++◌, length, take, Option, None, Some}
use Rattle.std.specs.List.{AllByRecursion}
use Rattle.std.proofs.Common.{refl, sym, ap, subst, ◌∙◌, arith, append_assoc, append-nil, length-append, lit≤}
use Rattle.std.proofs.lemmas.Bool.{true≢false}
use Rattle.send_model.specs.Refusal.{NoSubvolume}
use Rattle.send_model.specs.Command.{Command, End}
use Rattle.send_model.specs.Spelling.{stream_header, canonical, canonical_all}
use Rattle.send_model.specs.Reading.{is_version}
use Rattle.send_model.specs.Store.{Head, head_of, Store, State, step, completed}
use Rattle.send_model.specs.Receive.{bytes_of}
use Rattle.send_model.specs.Order.{onto_heads, heads_of}
use Rattle.send_model.specs.Headline.{IsUnfinished}
use Rattle.send_model.proofs.Sorts.{by_sort, is_plain, plain_step_without}
use Rattle.send_model.proofs.Runs.{Takes}
use Rattle.send_model.proofs.Merging.{NoClones, edits_of}
use Rattle.send_model.proofs.Streams.{IsInner}
use Rattle.send_model.proofs.Prefixes.{stream_cut}

pub canonical_all-append : (version : ℕ) (cs ds : List Command) → canonical_all version (cs ++ ds) ≡ canonical_all version cs ++ canonical_all version ds
unfolding canonical_all
canonical_all-append version [] ds = refl
canonical_all-append version (c ∷ cs) ds = ap (λ (r : List ℕ). canonical version c ++ r) (canonical_all-append version cs ds) ∙ sym (append_assoc (canonical version c) (canonical_all version cs) (canonical_all version ds))

pub heads_of-append : (cs ds : List Command) → heads_of (cs ++ ds) ≡ heads_of cs ++ heads_of ds
unfolding heads_of
heads_of-append [] ds = refl
heads_of-append (c ∷ cs) ds = one (head_of c) (heads_of-append cs ds)
  where
    one : (o : Option Head) → heads_of (cs ++ ds) ≡ heads_of cs ++ heads_of ds → onto_heads o (heads_of (cs ++ ds)) ≡ onto_heads o (heads_of cs) ++ heads_of ds
    one None more = more
    one (Some h) more = ap (λ (r : List Head). h ∷ r) more

-- ---- before the first head

-- Before the first head, only END can be taken.
Quiet : List Command → Type 0
Quiet cs = (store : Store ℕ) (end : State ℕ) → NoClones cs → heads_of cs ≡ [] → Takes (record { store = store; part = None }) cs end → (edits_of cs ≡ []) × (end ≡ record { store = store; part = None })

quiet_head : (c : Command) (head : Head) → head_of c ≡ Some head → (cs : List Command) → Quiet (c ∷ cs)
unfolding Quiet heads_of
quiet_head c head h cs store end n none t = absurd (let e : head ∷ heads_of cs ≡ [] = sym (ap (λ (o : Option Head). onto_heads o (heads_of cs)) h) ∙ none in cc)

quiet_end : (cs : List Command) → Quiet cs → Quiet (End ∷ cs)
unfolding Quiet heads_of step completed
quiet_end cs ih store end n none t = ih store end n.1 none t.1

quiet_plain : (c : Command) → is_plain c ≡ true → (cs : List Command) → Quiet (c ∷ cs)
unfolding Quiet
quiet_plain c h cs store end n none t = absurd (let e : Some NoSubvolume ≡ None = sym (plain_step_without 0 (bytes_of c) store c h) ∙ t.0 in cc)

pub quiet : (cs : List Command) (store : Store ℕ) (end : State ℕ) → NoClones cs → heads_of cs ≡ [] → Takes (record { store = store; part = None }) cs end → (edits_of cs ≡ []) × (end ≡ record { store = store; part = None })
unfolding Quiet
quiet [] = λ store end n none t. (refl, sym t)
quiet (c ∷ cs) = by_sort {P = λ c. Quiet cs → Quiet (c ∷ cs)} (λ c head h ih. quiet_head c head h cs) (quiet_end cs) (λ c h ih store end n none t. absurd (true≢false (sym h ∙ n.0))) (λ c h ih. quiet_plain c h cs) c (quiet cs)

-- ---- unfinished

header_long : (version : ℕ) → 1 ≤ length (stream_header version)
unfolding stream_header
header_long version = lit≤ tt

take_nothing : (k : ℕ) → take {A = ℕ} k [] ≡ []
take_nothing zero = refl
take_nothing (suc k) = refl

-- Where nothing is written, no part of it is read as whole.
pub nothing_unfinished : (k : ℕ) → IsUnfinished (take k [])
nothing_unfinished k =
    let U : List ℕ → Type 0 = λ b. IsUnfinished b in
    subst U (sym (take_nothing k)) (stream_cut 1 1 [] 0 refl tt (omega (arith, length-append (stream_header 1) (canonical_all 1 (End ∷ [])), header_long 1)))

-- The whole stream, as what stands before its END and END.
pub whole_parts : (version : ℕ) (front : List ℕ) (cs : List Command) → front ++ canonical_all version (cs ++ End ∷ []) ≡ (front ++ canonical_all version cs) ++ canonical version End
unfolding canonical_all
whole_parts version front cs = ap (λ (r : List ℕ). front ++ r) (canonical_all-append version cs (End ∷ []) ∙ ap (λ (r : List ℕ). canonical_all version cs ++ r) (append-nil (canonical version End))) ∙ sym (append_assoc front (canonical_all version cs) (canonical version End))

-- No front part of what is written before END is read as whole, and no proper one of the whole.
pub unfinished_part : (version : ℕ) (cs : List Command) (k : ℕ) → is_version version ≡ true → AllByRecursion (IsInner version) cs → k < length ((stream_header version ++ canonical_all version cs) ++ canonical version End) → IsUnfinished (take k ((stream_header version ++ canonical_all version cs) ++ canonical version End))
unfinished_part version cs k is inner h =
    let whole = whole_parts version (stream_header version) cs in
    let U : List ℕ → Type 0 = λ b. k < length b → IsUnfinished (take k b) in
    subst U whole (stream_cut 1 version cs k is inner) h
