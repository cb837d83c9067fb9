-- What is judged to be squashed is one stream with one part, and is taken.
use Rattle.std.specs.Prelude.{◌≡◌, ℕ, suc, ◌≤◌, Bool, true, false, ◌&&◌, ◌||◌, List, [], ◌∷◌, ◌++◌, length, Option, None, Some, is_some, if◌then◌else◌}
use Rattle.std.specs.List.{sum_by}
use Rattle.std.proofs.Common.{refl, sym, ap, subst, ◌∙◌, arith}
use Rattle.std.proofs.lemmas.List.Sums.{sum_by-append, sum_by-cons}
use Rattle.send_model.specs.Refusal.{Refusal, NotConsecutive}
use Rattle.send_model.specs.Command.{Command, End}
use Rattle.send_model.specs.Reading.{Item, Verdict, input}
use Rattle.send_model.specs.Store.{Head, State, Stepped, head_of, step}
use Rattle.send_model.specs.Receive.{byte_cells, fault_of, first_of, start_of, verdict_of, run_by, run_items, receive_items, then_run}
use Rattle.send_model.specs.Order.{heads, heads_of, onto_heads, commands_of, then_judge, without_parts, last_item}
use Rattle.send_model.specs.Counts.{is_end, streams}
use Rattle.send_model.specs.Outside.{base, keys_outside}
use Rattle.send_model.proofs.HeadlineLaw.{files_are_whole}
use Rattle.send_model.proofs.LawfulStores.{lawful_finds_sayable}
use Rattle.squash_model.specs.SquashedStreams.{IsSquashedOf}
use Rattle.squash_model.specs.SquashJudge.{Passed, nothing_passed, passed_with, is_second, judge_one, squash_output_for, JudgedIsOneStream, JudgedIsSquashed, LawfulStoresSquash}
use Rattle.squash_model.proofs.SquashedFiles.{squashed_readings_hold}

-- What a command without a verdict says.
pub record Allowed (item : Item) (state : State ℕ) (passed : Passed) (rest : Option Verdict) : Type 0 where
  pub taken : (step 0 (byte_cells item) state item.command).refusal ≡ None
  pub first : is_second passed item ≡ false
  pub later : rest ≡ None

pub allowed : (item : Item) (state : State ℕ) (passed : Passed) (rest : Option Verdict) → then_judge item (step 0 (byte_cells item) state item.command) (is_second passed item) rest ≡ None → Allowed item state passed rest
allowed item state passed rest e = one (step 0 (byte_cells item) state item.command).refusal refl (is_second passed item) refl e
  where
    one : (o : Option Refusal) → (step 0 (byte_cells item) state item.command).refusal ≡ o → (b : Bool) → is_second passed item ≡ b
        → (elim o as (λ x. Option Verdict) [ Some refusal ↦ Some (verdict_of item refusal) | None ↦ (if b then Some (verdict_of item NotConsecutive) else rest) ]) ≡ None
        → Allowed item state passed rest
    one (Some refusal) t b s q = cc
    one None t true s q = cc
    one None t false s q = record { taken = t; first = s; later = q }

takes_all : (items : List Item) (state : State ℕ) (passed : Passed) → judge_one state passed items ≡ None → (run_items 0 byte_cells state items).refused ≡ None
unfolding judge_one run_items run_by
takes_all [] state passed e = refl
takes_all (item ∷ items) state passed e =
    let next : Stepped ℕ = step 0 (byte_cells item) state item.command in
    let a = allowed item state passed (judge_one next.state (passed_with passed item) items) e in
    on next.refusal a.taken (takes_all items next.state (passed_with passed item) a.later)
  where
    on : (o : Option Refusal) → o ≡ None → (run_by (λ s i. step 0 (byte_cells i) s i.command) (step 0 (byte_cells item) state item.command).state items).refused ≡ None
        → (then_run item (record { state = (step 0 (byte_cells item) state item.command).state; refusal = o }) (run_by (λ s i. step 0 (byte_cells i) s i.command) (step 0 (byte_cells item) state item.command).state items)).refused ≡ None
    on None t more = more
    on (Some refusal) t more = cc

false_parts : (a b : Bool) → a || b ≡ false → (a ≡ false) × (b ≡ false)
false_parts true b e = cc
false_parts false b e = (refl, e)

pub nothing_behind : (items : List Item) (state : State ℕ) (passed : Passed) → passed.closed ≡ true → judge_one state passed items ≡ None → items ≡ []
unfolding judge_one
nothing_behind [] state passed c e = refl
nothing_behind (item ∷ items) state passed c e =
    let next : Stepped ℕ = step 0 (byte_cells item) state item.command in
    let a = allowed item state passed (judge_one next.state (passed_with passed item) items) e in
    let unclosed = (false_parts passed.closed (passed.begun && is_some (head_of item.command)) a.first).0 in
    cc

abbrev end_of : Command → ℕ
end_of c = if is_end c then 1 else 0

one_end : (items : List Item) (state : State ℕ) (passed : Passed) → judge_one state passed items ≡ None → sum_by end_of (commands_of items) ≤ 1
unfolding judge_one
one_end [] state passed e = let z : sum_by end_of [] ≡ 0 = refl in omega (arith, z)
one_end (item ∷ items) state passed e =
    let next : Stepped ℕ = step 0 (byte_cells item) state item.command in
    let a = allowed item state passed (judge_one next.state (passed_with passed item) items) e in
    one (is_end item.command) refl (λ h. nothing_behind items next.state (passed_with passed item) h a.later) (one_end items next.state (passed_with passed item) a.later)
  where
    or_true : (a b : Bool) → b ≡ true → a || b ≡ true
    or_true true b h = refl
    or_true false b h = h

    one : (b : Bool) → is_end item.command ≡ b → ((passed_with passed item).closed ≡ true → items ≡ []) → sum_by end_of (commands_of items) ≤ 1 → sum_by end_of (commands_of (item ∷ items)) ≤ 1
    one true h none more =
        let empty : items ≡ [] = none (or_true passed.closed (is_end item.command) h) in
        let rest : sum_by end_of (commands_of items) ≡ sum_by end_of [] = ap (λ (is : List Item). sum_by end_of (commands_of is)) empty in
        let zero : sum_by end_of [] ≡ 0 = refl in
        let here : ◌≡◌ {A = ℕ} (end_of item.command) 1 = ap (λ (t : Bool). if t then 1 else 0) h in
        let first = sum_by-cons end_of item.command (commands_of items) in
        omega (arith, rest, zero, here, first)
    one false h none more =
        let here : ◌≡◌ {A = ℕ} (end_of item.command) 0 = ap (λ (t : Bool). if t then 1 else 0) h in
        let first = sum_by-cons end_of item.command (commands_of items) in
        omega (arith, more, here, first)

pub no_head : (items : List Item) (state : State ℕ) (passed : Passed) → passed.begun ≡ true → judge_one state passed items ≡ None → heads_of (commands_of items) ≡ []
unfolding judge_one heads_of
no_head [] state passed b e = refl
no_head (item ∷ items) state passed b e =
    let next : Stepped ℕ = step 0 (byte_cells item) state item.command in
    let a = allowed item state passed (judge_one next.state (passed_with passed item) items) e in
    one (head_of item.command) refl b (false_parts passed.closed (passed.begun && is_some (head_of item.command)) a.first).1
    (no_head items next.state (passed_with passed item) (ap (λ (t : Bool). t || is_some (head_of item.command)) b) a.later)
  where
    one : (o : Option Head) → head_of item.command ≡ o → passed.begun ≡ true → passed.begun && is_some (head_of item.command) ≡ false → heads_of (commands_of items) ≡ [] → onto_heads (head_of item.command) (heads_of (commands_of items)) ≡ []
    one None h t f more = ap (λ (o : Option Head). onto_heads o (heads_of (commands_of items))) h ∙ more
    one (Some head) h t f more =
        let s : is_some (head_of item.command) ≡ true = ap (λ (o : Option Head). is_some o) h in
        let both : passed.begun && is_some (head_of item.command) ≡ true = ap (λ (x : Bool). x && is_some (head_of item.command)) t ∙ s in
        cc

one_head : (items : List Item) (state : State ℕ) (passed : Passed) → judge_one state passed items ≡ None → length (heads_of (commands_of items)) ≤ 1
unfolding judge_one heads_of
one_head [] state passed e = let z : length {A = Head} [] ≡ 0 = refl in omega (arith, z)
one_head (item ∷ items) state passed e =
    let next : Stepped ℕ = step 0 (byte_cells item) state item.command in
    let a = allowed item state passed (judge_one next.state (passed_with passed item) items) e in
    one (head_of item.command) refl (λ h. no_head items next.state (passed_with passed item) h a.later) (one_head items next.state (passed_with passed item) a.later)
  where
    or_true : (a b : Bool) → b ≡ true → a || b ≡ true
    or_true true b h = refl
    or_true false b h = h

    one : (o : Option Head) → head_of item.command ≡ o → ((passed_with passed item).begun ≡ true → heads_of (commands_of items) ≡ []) → length (heads_of (commands_of items)) ≤ 1
        → length (onto_heads (head_of item.command) (heads_of (commands_of items))) ≤ 1
    one None h none more = let e = ap (λ (o : Option Head). length (onto_heads o (heads_of (commands_of items)))) h in omega (arith, e, more)
    one (Some head) h none more =
        let empty = none (or_true passed.begun (is_some (head_of item.command)) (ap (λ (o : Option Head). is_some o) h)) in
        let e = ap (λ (o : Option Head). length (onto_heads o (heads_of (commands_of items)))) h in
        let f = ap (λ (hs : List Head). length (head ∷ hs)) empty in
        let z : length (head ∷ []) ≡ 1 = refl in
        omega (arith, e, f, z)

-- ---- the laws

none_first : {A : Type 0} (a b : Option A) → first_of a b ≡ None → (a ≡ None) × (b ≡ None)
none_first None b e = (refl, e)
none_first (Some x) b e = cc

-- Items that end with an END and hold no part have a verdict.
some_head : (items : List Item) (others : List Command) → commands_of items ≡ others ++ End ∷ [] → (hs : List Head) → without_parts items hs ≡ None → 1 ≤ length hs
some_head items others e (h ∷ hs) n = let z : length (h ∷ hs) ≡ suc (length hs) = refl in omega (arith, z)
some_head items others e [] n = absurd (one items e n)
  where
    never : (item : Item) (items : List Item) → (elim (last_item (item ∷ items)) as (λ x. Option Verdict) [ None ↦ None | Some i ↦ Some (verdict_of i NotConsecutive) ]) ≡ None → ⊥
    never item [] q = cc
    never item (next ∷ items) q = never next items q

    some : (ds : List Command) → [] ≡ ds ++ End ∷ [] → ⊥
    some [] q = cc
    some (d ∷ ds) q = cc

    one : (is : List Item) → commands_of is ≡ others ++ End ∷ [] → without_parts is [] ≡ None → ⊥
    one [] q m = some others q
    one (item ∷ is) q m = never item is m

pub judged_is_one_stream : JudgedIsOneStream
unfolding receive_items streams
judged_is_one_stream base reading w e =
    let a = none_first (judge_one (start_of base) nothing_passed reading.items) (first_of (fault_of reading.end) (without_parts reading.items (heads reading.items))) e in
    let b = none_first (fault_of reading.end) (without_parts reading.items (heads reading.items)) a.1 in
    let few = one_head reading.items (start_of base) nothing_passed a.0 in
    let some = some_head reading.items w.others w.ends (heads reading.items) b.1 in
    let ends = one_end reading.items (start_of base) nothing_passed a.0 in
    let last = ap (sum_by end_of) w.ends ∙ sum_by-append end_of w.others (End ∷ []) in
    let one : sum_by end_of (End ∷ []) ≡ 1 = refl in
    record {
      one_part = omega (arith, few, some);
      one_stream = omega (arith, ends, last, one);
      accepted = ap (λ (o : Option Verdict). first_of o (fault_of reading.end)) (takes_all reading.items (start_of base) nothing_passed a.0) ∙ b.0;
    }

pub judged_is_squashed : JudgedIsSquashed
judged_is_squashed base reading w e lawful =
    let o = judged_is_one_stream base reading w e in
    subst (λ (v : Option Verdict). IsSquashedOf base reading (squash_output_for v base reading.items)) (sym e)
    (squashed_readings_hold base reading w o.one_stream o.accepted lawful)

pub lawful_stores_squash : LawfulStoresSquash
lawful_stores_squash store file h are whole some e =
    judged_is_squashed (base store (file ∷ [])) (input (file ∷ [])) (files_are_whole (file ∷ []) (are, tt) whole some) e
    (λ k s among f. let y = lawful_finds_sayable store (file ∷ []) (keys_outside (input (file ∷ [])).items) h k s among f in y.lawful)
