-- Separators count nothing; and an edit does the same over every store that finds the same sources.
use Rattle.std.specs.Prelude.{◌≡◌, ◌⊎◌, ℕ, ◌+◌, Bool, true, false, not, ◌&&◌, List, [], ◌∷◌, ◌++◌, length, Option, None, Some, if◌then◌else◌}
use Rattle.std.specs.List.{AllByRecursion, sum_by}
use Rattle.std.specs.Str.{bytes_eq}
use Rattle.std.proofs.Common.{refl, sym, ap, ◌∙◌, inl, inr, arith}
use Rattle.std.proofs.lemmas.List.Sums.{sum_by-cons}
use Rattle.send_model.specs.Command.{Command, Subvol, Snapshot, Clone, End}
use Rattle.send_model.specs.Subvolume.{Subvolume}
use Rattle.send_model.specs.Clone.{clone, clone_values}
use Rattle.send_model.specs.Store.{Key, Head, head_of, Store, Part, State, step, step_edit, edit_part, edited, clone_source, find, key_of}
use Rattle.send_model.specs.Receive.{bytes_of}
use Rattle.send_model.specs.Order.{onto_heads, heads_of}
use Rattle.send_model.specs.Outside.{keys_named, all_keys_named}
use Rattle.send_model.specs.Counts.{literal, clones, streams, is_clone, is_end}
use Rattle.send_model.specs.Opened.{Opened, written_path, is_astray}
use Rattle.send_model.specs.Separated.{with_all, led_from, separated, separator, separator_for, separator_in, open_anew, other_path, touch, detour, free_name, names_file, SeparatedCountsSame}

-- ---- counts

-- A command that carries no bytes, is no clone and no head, and names no key.
pub record IsQuiet (c : Command) : Type 0 where
  pub bytes : ◌≡◌ {A = ℕ} (length (bytes_of c)) 0
  pub no_clone : is_clone c ≡ false
  pub no_end : is_end c ≡ false
  pub no_head : head_of c ≡ None
  pub no_key : keys_named c ≡ []

abbrev pub AreQuiet : List Command → Type 0
AreQuiet cs = AllByRecursion IsQuiet cs

abbrev one_clone : Command → ℕ
one_clone c = if is_clone c then 1 else 0

none_added : (n : ℕ) → 0 + n ≡ n
none_added n = omega arith

quiet_bytes : (cs ds : List Command) → AreQuiet cs → literal (cs ++ ds) ≡ literal ds
unfolding literal
quiet_bytes [] ds q = refl
quiet_bytes (c ∷ cs) ds (q, qs) = let a = sum_by-cons (λ (x : Command). length (bytes_of x)) c (cs ++ ds) in let b = q.bytes in let i : literal (cs ++ ds) ≡ literal ds = quiet_bytes cs ds qs in omega (arith, a, b, i)

quiet_keys : (cs ds : List Command) → AreQuiet cs → all_keys_named (cs ++ ds) ≡ all_keys_named ds
quiet_keys [] ds q = refl
quiet_keys (c ∷ cs) ds (q, qs) = ap (λ (ks : List Key). ks ++ all_keys_named (cs ++ ds)) q.no_key ∙ quiet_keys cs ds qs

quiet_heads : (cs ds : List Command) → AreQuiet cs → heads_of (cs ++ ds) ≡ heads_of ds
unfolding heads_of
quiet_heads [] ds q = refl
quiet_heads (c ∷ cs) ds (q, qs) = ap (λ (o : Option Head). onto_heads o (heads_of (cs ++ ds))) q.no_head ∙ quiet_heads cs ds qs

quiet_clones : (cs ds : List Command) → AreQuiet cs → clones (cs ++ ds) ≡ clones ds
unfolding clones
quiet_clones [] ds q = refl
quiet_clones (c ∷ cs) ds (q, qs) =
    let a = sum_by-cons one_clone c (cs ++ ds) in
    let b : ◌≡◌ {A = ℕ} (one_clone c) 0 = ap (λ (t : Bool). if t then 1 else 0) q.no_clone in
    let i : clones (cs ++ ds) ≡ clones ds = quiet_clones cs ds qs in
    a ∙ ap (λ (n : ℕ). n + sum_by one_clone (cs ++ ds)) b ∙ none_added (sum_by one_clone (cs ++ ds)) ∙ i

abbrev one_end : Command → ℕ
one_end c = if is_end c then 1 else 0

quiet_streams : (cs ds : List Command) → AreQuiet cs → streams (cs ++ ds) ≡ streams ds
unfolding streams
quiet_streams [] ds q = refl
quiet_streams (c ∷ cs) ds (q, qs) =
    let a = sum_by-cons one_end c (cs ++ ds) in
    let b : ◌≡◌ {A = ℕ} (one_end c) 0 = ap (λ (t : Bool). if t then 1 else 0) q.no_end in
    let i : streams (cs ++ ds) ≡ streams ds = quiet_streams cs ds qs in
    a ∙ ap (λ (n : ℕ). n + sum_by one_end (cs ++ ds)) b ∙ none_added (sum_by one_end (cs ++ ds)) ∙ i

separator_quiet : (opened : Option Opened) (other : List ℕ) (state : State ℕ) (c : Command) → AreQuiet (separator opened other state c)
unfolding separator separator_in detour
separator_quiet opened other state c = one (is_astray opened state c) state.part (written_path c)
  where
    q : (x : Command) → ◌≡◌ {A = ℕ} (length (bytes_of x)) 0 → is_clone x ≡ false → is_end x ≡ false → head_of x ≡ None → keys_named x ≡ [] → IsQuiet x
    q x a b f d e = record { bytes = a; no_clone = b; no_end = f; no_head = d; no_key = e }

    two : (b : Bool) (s : Subvolume ℕ) (name path : List ℕ) → AreQuiet (if b then touch other ∷ [] else detour s name path)
    two true s name path = (q _ refl refl refl refl refl, tt)
    two false s name path = (q _ refl refl refl refl refl, (q _ refl refl refl refl refl, (q _ refl refl refl refl refl, (q _ refl refl refl refl refl, tt))))

    one : (b : Bool) (p : Option (Part ℕ)) (w : Option (List ℕ)) → AreQuiet (if b then separator_for other p w else [])
    one false p w = tt
    one true None w = tt
    one true (Some part) None = tt
    one true (Some part) (Some path) = two (names_file part.subvolume other && not (bytes_eq other path)) part.subvolume (free_name part.subvolume) path

module _ where
  all_same : (cs : List Command) (opened : Option Opened) (other : List ℕ) (state : State ℕ) →
      (literal (with_all (led_from opened other state cs)) ≡ literal cs) × (clones (with_all (led_from opened other state cs)) ≡ clones cs)
      × (all_keys_named (with_all (led_from opened other state cs)) ≡ all_keys_named cs) × (heads_of (with_all (led_from opened other state cs)) ≡ heads_of cs) × (streams (with_all (led_from opened other state cs)) ≡ streams cs)
  unfolding led_from literal clones heads_of streams
  all_same [] opened other state = (refl, refl, refl, refl, refl)
  all_same (c ∷ cs) opened other state =
      let next : State ℕ = (step 0 (bytes_of c) state c).state in
      let ls : List Command = with_all (led_from (open_anew opened state c) (other_path other opened (written_path c)) next cs) in
      let q = separator_quiet opened other state c in
      let sep : List Command = separator opened other state c in
      let i = all_same cs (open_anew opened state c) (other_path other opened (written_path c)) next in
      let a = sum_by-cons (λ (x : Command). length (bytes_of x)) c ls in
      let b = sum_by-cons (λ (x : Command). length (bytes_of x)) c cs in
      let e = quiet_bytes sep (c ∷ ls) q in (
        e ∙ a ∙ ap (λ (n : ℕ). length (bytes_of c) + n) i.0 ∙ sym b,
        quiet_clones sep (c ∷ ls) q ∙ sum_by-cons one_clone c ls ∙ ap (λ (n : ℕ). one_clone c + n) i.1 ∙ sym (sum_by-cons one_clone c cs),
        quiet_keys sep (c ∷ ls) q ∙ ap (λ (ks : List Key). keys_named c ++ ks) i.2,
        quiet_heads sep (c ∷ ls) q ∙ ap (onto_heads (head_of c)) i.3,
        quiet_streams sep (c ∷ ls) q ∙ sum_by-cons one_end c ls ∙ ap (λ (n : ℕ). one_end c + n) i.4 ∙ sym (sum_by-cons one_end c cs),
      )

pub separated_counts_same : SeparatedCountsSame
unfolding separated
separated_counts_same state cs = let a = all_same cs None [] state in record { literal_bytes = a.0; clone_count = a.1; same_keys = a.2; same_heads = a.3; same_streams = a.4 }

-- ---- over two stores

-- A command of a part, whose source two stores find alike, or which is the part itself.
pub record IsAlike (store other : Store ℕ) (key : Key) (c : Command) : Type 0 where
  pub no_end : is_end c ≡ false
  pub no_head : head_of c ≡ None
  pub sources : AllByRecursion (λ k. (bytes_eq k.uuid key.uuid ≡ true) ⊎ (find store k ≡ find other k)) (keys_named c)

pub inner_step : (put : List ℕ) (store : Store ℕ) (part : Part ℕ) (c : Command) → is_end c ≡ false → head_of c ≡ None → step 0 put (record { store = store; part = Some part }) c ≡ edited store part (edit_part 0 put store part c)
unfolding step step_edit
inner_step put store part (Subvol uuid ctransid path) e h = cc
inner_step put store part (Snapshot uuid ctransid path clone_uuid clone_ctransid) e h = cc
inner_step put store part End e h = cc
inner_step put store part c e h = refl

same_source : (store other : Store ℕ) (part : Part ℕ) (k : Key) → (bytes_eq k.uuid part.key.uuid ≡ true) ⊎ (find store k ≡ find other k) → clone_source store part k ≡ clone_source other part k
same_source store other part k (inl own) = ap (λ (b : Bool). if b then Some part.subvolume else find store k) own ∙ sym (ap (λ (b : Bool). if b then Some part.subvolume else find other k) own)
same_source store other part k (inr found) = ap (λ (o : Option (Subvolume ℕ)). if bytes_eq k.uuid part.key.uuid then Some part.subvolume else o) found

pub same_edit : (put : List ℕ) (store other : Store ℕ) (part : Part ℕ) (c : Command) → IsAlike store other part.key c → edit_part 0 put store part c ≡ edit_part 0 put other part c
unfolding edit_part
same_edit put store other part (Clone path offset clone_uuid clone_ctransid clone_path from len) a =
    ap (λ (o : Option (Subvolume ℕ)). clone 0 part.subvolume o (bytes_eq clone_uuid part.key.uuid) (clone_values path offset clone_path from len)) (same_source store other part (key_of clone_uuid clone_ctransid) a.sources.0)
same_edit put store other part c a = refl
