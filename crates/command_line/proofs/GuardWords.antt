-- Words that mean a guard begin as guard words do.
use Rattle.std.specs.Prelude.{◌≡◌, ℕ, ◌≤◌, Bool, true, false, List, length, take, drop, Option, None, Some, codes, if◌then◌else◌}
use Rattle.std.specs.Option.{option_map}
use Rattle.std.specs.Str.{bytes_eq}
use Rattle.std.proofs.Common.{refl, sym, ap, subst, ◌∙◌, lit≤}
use Rattle.std.proofs.lemmas.Bool.{false≢true}
use Rattle.std.proofs.lemmas.List.{take-take}
use Rattle.send_model.specs.Receive.{first_of}
use Rattle.send_model.specs.Guards.{GuardSpec, MostBytes, MostCommands, NoDevices, MostEnd, guard_of, is_guard_word, number_word, numbered_guard}
use Rattle.send_model.proofs.Stores.{bytes_eq_true, bytes_eq_same}

either : {P : Type 0} (a b : Option GuardSpec) (guard : GuardSpec) → (a ≡ Some guard → P) → (b ≡ Some guard → P) → first_of a b ≡ Some guard → P
either None b guard one other is = other is
either (Some spec) b guard one other is = one is

-- A word that begins with a text that begins so.
begins : (text word : List ℕ) → take 6 text ≡ codes "guard:" → 6 ≤ length text → bytes_eq (take (length text) word) text ≡ true → is_guard_word word ≡ true
begins text word front long is =
    ap (λ (w : List ℕ). bytes_eq w (codes "guard:")) (sym (take-take 6 (length text) word long) ∙ ap (λ (w : List ℕ). take 6 w) (bytes_eq_true (take (length text) word) text is) ∙ front)
    ∙ bytes_eq_same (codes "guard:")

numbered : (text : List ℕ) (made : ℕ → GuardSpec) (word : List ℕ) (guard : GuardSpec) → take 6 text ≡ codes "guard:" → 6 ≤ length text
    → numbered_guard text made word ≡ Some guard → is_guard_word word ≡ true
numbered text made word guard front long is = one (bytes_eq (take (length text) word) text) refl is
  where
    one : (b : Bool) → bytes_eq (take (length text) word) text ≡ b
        → (elim (if b then Some (drop (length text) word) else None) as (λ x. Option GuardSpec) [ None ↦ None | Some rest ↦ option_map made (number_word rest) ]) ≡ Some guard
        → is_guard_word word ≡ true
    one true e q = begins text word front long e
    one false e q = cc

devices : (word : List ℕ) (guard : GuardSpec) → (if bytes_eq word (codes "guard:nodev") then Some NoDevices else None) ≡ Some guard → is_guard_word word ≡ true
devices word guard is = one (bytes_eq word (codes "guard:nodev")) refl is
  where
    one : (b : Bool) → bytes_eq word (codes "guard:nodev") ≡ b → (if b then Some NoDevices else None) ≡ Some guard → is_guard_word word ≡ true
    one true e q = subst (λ (w : List ℕ). is_guard_word w ≡ true) (sym (bytes_eq_true word (codes "guard:nodev") e)) refl
    one false e q = cc

pub means_guard : (word : List ℕ) (guard : GuardSpec) → guard_of word ≡ Some guard → is_guard_word word ≡ true
unfolding guard_of
means_guard word guard is =
    either _ _ guard (devices word guard)
    (λ rest. either _ _ guard (numbered (codes "guard:bytes=") MostBytes word guard refl (lit≤ tt))
    (λ more. either _ _ guard (numbered (codes "guard:commands=") MostCommands word guard refl (lit≤ tt)) (numbered (codes "guard:end=") MostEnd word guard refl (lit≤ tt)) more)
    rest)
    is

pub no_guard : (word : List ℕ) → is_guard_word word ≡ false → guard_of word ≡ None
no_guard word file = one (guard_of word) refl
  where
    one : (o : Option GuardSpec) → guard_of word ≡ o → o ≡ None
    one None e = refl
    one (Some guard) e = absurd (false≢true (sym file ∙ means_guard word guard e))
