-- Blocks of changes, and stacks of marks and stretches.
use Rattle.std.specs.Prelude.{◌≡◌, ℕ, ◌+◌, ◌-◌, ◌<◌, ◌≤◌, Bool, List, [], ◌∷◌, ◌++◌, length, take, drop, reverse, None, Some}
use Rattle.std.specs.List.{AllByRecursion, slice_get}
use Rattle.std.specs.Global.{Vec}
use Rattle.std.proofs.Common.{refl, sym, ap, ap₂, subst, ◌∙◌, arith, append_assoc, length-append}
use Rattle.std.proofs.lemmas.Option.{slice_get_within, get_or_from_slice_get, slice_get-get_or}
use Rattle.std.proofs.lemmas.List.{append-nil, take_more, reverse-append, take_all, nil_from_length, length-take, length-drop, take-append-le, drop-append-le, take-append-drop}
use Rattle.squash_log.specs.declared.change.Change.{Change}
use Rattle.squash_log.specs.declared.fate.Span.{Span}
use Rattle.squash_log.specs.declared.fates.Mark.{Mark}
use Rattle.squash_log.specs.declared.fates.Mark.TheVariants as mark
use Rattle.squash_log.specs.Changes.{Fits}
use Rattle.squash_log.specs.Fates.{Fate, Whole, Parts}
use Rattle.squash_log.specs.Stacks.{in_blocks, logged, HasSome, AreLogged, count_of, marked, all_marked, all_counts, unstacked, IsMarked, AreMarked}

-- ---- what holds of all elements

all_joined : {X : Type 0} (P : X → Type 0) (a b : List X) → AllByRecursion P a → AllByRecursion P b → AllByRecursion P (a ++ b)
all_joined P [] b p q = q
all_joined P (x ∷ a) b p q = (p.0, all_joined P a b p.1 q)

all_front : {X : Type 0} (P : X → Type 0) (a b : List X) → AllByRecursion P (a ++ b) → AllByRecursion P a
all_front P [] b p = tt
all_front P (x ∷ a) b p = (p.0, all_front P a b p.1)

all_back : {X : Type 0} (P : X → Type 0) (a b : List X) → AllByRecursion P (a ++ b) → AllByRecursion P b
all_back P [] b p = p
all_back P (x ∷ a) b p = all_back P a b p.1

-- ---- blocks

blocks_joined : (a b : List (Vec Change)) → in_blocks (a ++ b) ≡ in_blocks a ++ in_blocks b
blocks_joined [] b = refl
blocks_joined (x ∷ a) b = ap (λ (l : List Change). x.items ++ l) (blocks_joined a b) ∙ sym (append_assoc x.items (in_blocks a) (in_blocks b))

-- The last block becomes a full one, and nothing is behind it.
pub full_more : (full : List (Vec Change)) (block : Vec Change) (last none : List Change) → block.items ≡ last → none ≡ [] → logged (full ++ block ∷ []) none ≡ logged full last
full_more full block last none e n =
    ap (λ (l : List Change). l ++ none) (blocks_joined full (block ∷ [])) ∙ ap (λ (l : List Change). (in_blocks full ++ (block.items ++ [])) ++ l) n
    ∙ append-nil (in_blocks full ++ (block.items ++ []))
    ∙ ap (λ (l : List Change). in_blocks full ++ l) (append-nil block.items ∙ e)

pub logged_more : (full : List (Vec Change)) (last : List Change) (c : Change) → logged full (last ++ c ∷ []) ≡ logged full last ++ c ∷ []
logged_more full last c = sym (append_assoc (in_blocks full) last (c ∷ []))

pub none_logged : AreLogged [] []
none_logged = record { some = tt; fit = tt }

pub still_logged : (full : List (Vec Change)) (last : List Change) (c : Change) → AreLogged full last → Fits c → AreLogged full (last ++ c ∷ [])
still_logged full last c a f = record {
  some = a.some;
  fit = subst (λ (l : List Change). AllByRecursion Fits l) (sym (logged_more full last c)) (all_joined Fits (logged full last) (c ∷ []) a.fit (f, tt));
}

pub full_logged : (full : List (Vec Change)) (block : Vec Change) (last none : List Change) → block.items ≡ last → none ≡ [] → 0 < length last → AreLogged full last → AreLogged (full ++ block ∷ []) none
full_logged full block last none e n some a = record {
  some = all_joined HasSome full (block ∷ []) a.some (omega (arith, some, ap length e), tt);
  fit = subst (λ (l : List Change). AllByRecursion Fits l) (sym (full_more full block last none e n)) a.fit;
}

pub less_logged : (full : List (Vec Change)) (last rest : List Change) (c : Change) → last ≡ rest ++ c ∷ [] → AreLogged full last → AreLogged full rest
less_logged full last rest c e a = record {
  some = a.some;
  fit = all_front Fits (logged full rest) (c ∷ []) (subst (λ (l : List Change). AllByRecursion Fits l) (ap (λ (l : List Change). logged full l) e ∙ logged_more full rest c) a.fit);
}

pub last_fits : (full : List (Vec Change)) (last rest : List Change) (c : Change) → last ≡ rest ++ c ∷ [] → AreLogged full last → Fits c
last_fits full last rest c e a =
    (all_back Fits (logged full rest) (c ∷ []) (subst (λ (l : List Change). AllByRecursion Fits l) (ap (λ (l : List Change). logged full l) e ∙ logged_more full rest c) a.fit)).0

-- A full block is the last one again.
pub opened_logged : (old full : List (Vec Change)) (block : Vec Change) (none : List Change) → none ≡ [] → old ≡ full ++ block ∷ [] → AreLogged old none → AreLogged full block.items
opened_logged old full block none n e a =
    let b : AreLogged (full ++ block ∷ []) none = subst (λ (l : List (Vec Change)). AreLogged l none) e a in
    record {
      some = all_front HasSome full (block ∷ []) b.some;
      fit = subst (λ (l : List Change). AllByRecursion Fits l) (full_more full block block.items none refl n) b.fit;
    }

pub opened_some : (old full : List (Vec Change)) (block : Vec Change) (none : List Change) → old ≡ full ++ block ∷ [] → AreLogged old none → 0 < length block.items
opened_some old full block none e a = (all_back HasSome full (block ∷ []) (subst (λ (l : List (Vec Change)). AllByRecursion HasSome l) e a.some)).0

pub opened_same : (old full : List (Vec Change)) (block : Vec Change) (none : List Change) → none ≡ [] → old ≡ full ++ block ∷ [] → logged old none ≡ logged full block.items
opened_same old full block none n e = ap (λ (l : List (Vec Change)). logged l none) e ∙ full_more full block block.items none refl n

-- A full block could not be kept: the changes of the last one are lost.
pub lost_logged : (old full : List (Vec Change)) (last none : List Change) → full ≡ old → none ≡ [] → AreLogged old last → AreLogged full none
lost_logged old full last none f n a = record {
  some = subst (λ (l : List (Vec Change)). AllByRecursion HasSome l) (sym f) a.some;
  fit = subst (λ (l : List Change). AllByRecursion Fits l) (sym (ap₂ (λ (x : List (Vec Change)) (y : List Change). logged x y) f n)) (all_joined Fits (in_blocks old) [] (all_front Fits (in_blocks old) last a.fit) tt);
}

-- The last block became a full one, and a change is in the new one.
pub pushed_logged : (full new_full : List (Vec Change)) (block : Vec Change) (last none new : List Change) (c : Change) → block.items ≡ last → none ≡ [] → 0 < length last
    → new_full ≡ full ++ block ∷ [] → new ≡ none ++ c ∷ [] → AreLogged full last → Fits c → AreLogged new_full new
pushed_logged full new_full block last none new c e n some f is a fits =
    subst (λ (l : List (Vec Change)). AreLogged l new) (sym f)
    (subst (λ (l : List Change). AreLogged (full ++ block ∷ []) l) (sym is) (still_logged (full ++ block ∷ []) none c (full_logged full block last none e n some a) fits))

pub pushed_same : (full new_full : List (Vec Change)) (block : Vec Change) (last none new : List Change) (c : Change) → block.items ≡ last → none ≡ []
    → new_full ≡ full ++ block ∷ [] → new ≡ none ++ c ∷ [] → logged new_full new ≡ logged full last ++ c ∷ []
pushed_same full new_full block last none new c e n f is =
    ap₂ (λ (x : List (Vec Change)) (y : List Change). logged x y) f is ∙ logged_more (full ++ block ∷ []) none c ∙ ap (λ (l : List Change). l ++ c ∷ []) (full_more full block last none e n)

-- ---- marks

take_front : (a b : List Span) (n : ℕ) → n ≡ length a → take n (a ++ b) ≡ a
take_front [] b n e = ap (λ (k : ℕ). take k b) e
take_front (x ∷ a) b n e = ap (λ (k : ℕ). take k (x ∷ a ++ b)) e ∙ ap (λ (l : List Span). x ∷ l) (take_front a b (length a) refl)

drop_front : (a b : List Span) (n : ℕ) → n ≡ length a → drop n (a ++ b) ≡ b
drop_front [] b n e = ap (λ (k : ℕ). drop k b) e
drop_front (x ∷ a) b n e = ap (λ (k : ℕ). drop k (x ∷ a ++ b)) e ∙ drop_front a b (length a) refl

take_less : (a b : List Span) (n : ℕ) → n ≤ length a → take n (a ++ b) ≡ take n a
take_less a b n h = take-append-le n a b h

drop_less : (a b : List Span) (n : ℕ) → n ≤ length a → drop n (a ++ b) ≡ drop n a ++ b
drop_less a b n h = drop-append-le n a b h

marked_less : (m : Mark) (a b : List Span) → count_of m ≤ length a → marked m (a ++ b) ≡ marked m a
marked_less mark.Whole a b h = refl
marked_less (mark.Parts count lengthens) a b h = ap (λ (l : List Span). Parts l lengthens) (take_less a b count h)

counts_more : (ms : List Mark) (m : Mark) → all_counts (ms ++ m ∷ []) ≡ all_counts ms + count_of m
counts_more [] m = omega arith
counts_more (x ∷ ms) m = let h = counts_more ms m in omega (arith, h)

marks_more : (ms : List Mark) (m : Mark) (spans added : List Span) → all_counts ms ≡ length spans
    → all_marked (ms ++ m ∷ []) (spans ++ added) ≡ all_marked ms spans ++ marked m added ∷ []
marks_more [] m spans added e = ap (λ (l : List Span). marked m (l ++ added) ∷ []) (nil_from_length spans (sym e))
marks_more (x ∷ ms) m spans added e =
    let fits : count_of x ≤ length spans = omega (arith, e) in
    ap₂ (λ (f : Fate) (l : List Fate). f ∷ l) (marked_less x spans added fits)
    (ap (λ (l : List Span). all_marked (ms ++ m ∷ []) l) (drop_less spans added (count_of x) fits)
    ∙ marks_more ms m (drop (count_of x) spans) added (omega (arith, e, length-drop (count_of x) spans)))

-- A mark more in front of the fates.
pub stacked : (ms : List Mark) (m : Mark) (spans added : List Span) → all_counts ms ≡ length spans → count_of m ≡ length added
    → (all_counts (ms ++ m ∷ []) ≡ length (spans ++ added)) × (unstacked (ms ++ m ∷ []) (spans ++ added) ≡ marked m added ∷ unstacked ms spans)
stacked ms m spans added e n = (
  let c = counts_more ms m in omega (arith, c, e, n, length-append spans added),
  ap (λ (l : List Fate). reverse l) (marks_more ms m spans added e) ∙ reverse-append (all_marked ms spans) (marked m added ∷ []),
)

pub marked_more : (fate : Fate) (ms new_ms : List Mark) (m : Mark) (spans new_spans : List Span) → IsMarked fate spans new_spans m → new_ms ≡ ms ++ m ∷ [] → AreMarked (fate ∷ []) ms new_ms spans new_spans
marked_more fate ms new_ms m spans new_spans is new_is e =
    let s = stacked ms m spans is.added e is.count_is in (
      ap all_counts new_is ∙ s.0 ∙ ap length (sym is.new_is),
      ap₂ (λ (a : List Mark) (b : List Span). unstacked a b) new_is is.new_is ∙ s.1 ∙ ap (λ (f : Fate). f ∷ unstacked ms spans) is.fate_is,
    )

-- ---- the first fate

-- The stretches of the last mark are the last ones.
pub first_is : (ms rest : List Mark) (m : Mark) (spans : List Span) → ms ≡ rest ++ m ∷ [] → all_counts ms ≡ length spans
    → (all_counts rest ≡ length (take (length spans - count_of m) spans))
    × (unstacked ms spans ≡ marked m (drop (length spans - count_of m) spans) ∷ unstacked rest (take (length spans - count_of m) spans))
first_is ms rest m spans e counts =
    let n : ℕ = length spans - count_of m in
    let sum : all_counts rest + count_of m ≡ length spans = sym (counts_more rest m) ∙ sym (ap all_counts e) ∙ counts in
    let front : all_counts rest ≡ length (take n spans) = omega (arith, sum, length-take n spans) in
    let back : count_of m ≡ length (drop n spans) = omega (arith, sum, length-drop n spans) in (
      front,
      ap₂ (λ (a : List Mark) (b : List Span). unstacked a b) e (sym (take-append-drop n spans)) ∙ (stacked rest m (take n spans) (drop n spans) front back).1,
    )

-- The stretches of a mark are all that it is given.
pub marked_all : (count : ℕ) (lengthens : Bool) (spans : List Span) → count ≡ length spans → marked (mark.Parts count lengthens) spans ≡ Parts spans lengthens
marked_all count lengthens spans e = ap (λ (l : List Span). Parts l lengthens) (take_all count spans (omega (arith, e)))

-- Behind the fate of the last mark are those of the others, with the stretches that are left.
pub passed : (ms rest : List Mark) (m : Mark) (spans left : List Span) → ms ≡ rest ++ m ∷ [] → all_counts ms ≡ length spans → left ≡ take (length spans - count_of m) spans
    → (all_counts rest ≡ length left) × (unstacked rest left ≡ drop 1 (unstacked ms spans))
passed ms rest m spans left e counts left_is =
    let f = first_is ms rest m spans e counts in
    (f.0 ∙ ap length (sym left_is), ap (λ (l : List Span). unstacked rest l) left_is ∙ sym (ap (λ (l : List Fate). drop 1 l) f.1))

pub within : (ms rest : List Mark) (m : Mark) (spans : List Span) → ms ≡ rest ++ m ∷ [] → all_counts ms ≡ length spans → count_of m ≤ length spans
within ms rest m spans e counts = let s = counts_more rest m in let t = ap all_counts e in omega (arith, s, t, counts)

-- The last of some marks, as it is read.
pub last_read : (ms : List Mark) (m : Mark) → slice_get ms (length ms - 1) ≡ Some m → ms ≡ take (length ms - 1) ms ++ m ∷ []
last_read ms m e =
    let lt : length ms - 1 < length ms = slice_get_within ms (length ms - 1) m e in
    let one : length ms - 1 + 1 ≡ length ms = omega (arith, lt) in
    sym (take_all (length ms) ms (omega arith)) ∙ ap (λ (k : ℕ). take k ms) (sym one) ∙ take_more ms (length ms - 1) m lt
    ∙ ap (λ (x : Mark). take (length ms - 1) ms ++ x ∷ []) (get_or_from_slice_get ms (length ms - 1) m m e)

-- The first fate is that of the last mark.
pub first_whole : (ms : List Mark) (spans : List Span) (shown : List Fate) → unstacked ms spans ≡ shown → slice_get ms (length ms - 1) ≡ Some mark.Whole → all_counts ms ≡ length spans
    → shown ≡ Whole ∷ drop 1 shown
first_whole ms spans shown view e counts =
    let f = first_is ms (take (length ms - 1) ms) mark.Whole spans (last_read ms mark.Whole e) counts in
    let is : shown ≡ Whole ∷ unstacked (take (length ms - 1) ms) (take (length spans - 0) spans) = sym view ∙ f.1 in
    is ∙ ap (λ (l : List Fate). Whole ∷ l) (sym (ap (λ (l : List Fate). drop 1 l) is))

pub first_parts : (ms : List Mark) (spans tail : List Span) (shown : List Fate) (count : ℕ) (lengthens : Bool) → unstacked ms spans ≡ shown
    → slice_get ms (length ms - 1) ≡ Some (mark.Parts count lengthens) → all_counts ms ≡ length spans → tail ≡ drop (length spans - count) spans
    → shown ≡ Parts tail lengthens ∷ drop 1 shown
first_parts ms spans tail shown count lengthens view e counts tail_is =
    let m : Mark = mark.Parts count lengthens in
    let ends = last_read ms m e in
    let f = first_is ms (take (length ms - 1) ms) m spans ends counts in
    let fits : count ≤ length spans = within ms (take (length ms - 1) ms) m spans ends counts in
    let long : count ≡ length (drop (length spans - count) spans) = omega (arith, fits, length-drop (length spans - count) spans) in
    let is : shown ≡ Parts tail lengthens ∷ unstacked (take (length ms - 1) ms) (take (length spans - count) spans) =
    sym view ∙ f.1 ∙ ap (λ (x : Fate). x ∷ unstacked (take (length ms - 1) ms) (take (length spans - count) spans))
    (marked_all count lengthens (drop (length spans - count) spans) long ∙ ap (λ (l : List Span). Parts l lengthens) (sym tail_is)) in
    is ∙ ap (λ (l : List Fate). Parts tail lengthens ∷ l) (sym (ap (λ (l : List Fate). drop 1 l) is))

-- No mark stands for no fate.
pub none_left : (ms : List Mark) (spans : List Span) (shown : List Fate) → unstacked ms spans ≡ shown → slice_get ms (length ms - 1) ≡ None → shown ≡ []
none_left [] spans shown view e = sym view
none_left (m ∷ ms) spans shown view e = absurd (some_none (sym (slice_get-get_or (m ∷ ms) (length (m ∷ ms) - 1) m (omega arith)) ∙ e))
  where
    some_none : {x : Mark} → Some x ≡ None → ⊥
    some_none h = cc
