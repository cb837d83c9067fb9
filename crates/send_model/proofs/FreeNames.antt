-- The root has not the name that a detour takes.
use Rattle.std.specs.Prelude.{◌≡◌, ℕ, zero, suc, ◌+◌, ◌<◌, ◌≤◌, ◌^◌, ◌%◌, ◌==◌, nat_le, Bool, true, false, cond, List, [], ◌∷◌, length, drop, Option, None, Some, is_some, if◌then◌else◌, codes}
use Rattle.std.specs.Fmt.{decimal}
use Rattle.std.specs.FinMap.Entries.{length_without}
use Rattle.std.proofs.Common.{refl, sym, ap, subst, ◌∙◌, arith, lit<}
use Rattle.std.specs.List.{AllByRecursion, list_any, list_all}
use Rattle.std.proofs.lemmas.Fmt.{decimal_injective, decimal_by_steps, length-decimal-le}
use Rattle.std.proofs.Common.{le-leb, eqb-true}
use Rattle.send_model.specs.Path.{slash, is_name, path_names}
use Rattle.send_model.specs.Attribute.{IsBytes}
use Rattle.send_model.proofs.ElementLaws.{all_both}
use Rattle.send_model.proofs.LeastPaths.{no_slash_alone}
use Rattle.send_model.proofs.PathLaws.{path_by_pieces}
use Rattle.send_model.specs.Map.{Map, IsMap, named_cmp, value_at, without}
use Rattle.send_model.specs.Subvolume.{Subvolume, root, named}
use Rattle.send_model.specs.Separated.{own_name, free_from, free_name, FreeNameIsFree, SoundCanSeparate}
use Rattle.send_model.proofs.MapLaws.{named_cmp_total, named_cmp_exact, without-other, without-order}

own_apart : (m n : ℕ) → m < 2 ^ 64 → n < 2 ^ 64 → own_name m ≡ own_name n → m ≡ n
own_apart m n a b e = decimal_injective m n a b (ap (λ (bytes : List ℕ). drop 8 bytes) e)

-- The name is that of one of the numbers tried.
pub record IsTried (k n : ℕ) (name : List ℕ) : Type 0 where
  pub number : ℕ
  pub is : name ≡ own_name number
  pub from : n ≤ number
  pub to : number ≤ n + k

tried : (k n : ℕ) (s : Subvolume ℕ) → IsTried k n (free_from k n s)
unfolding free_from
tried zero n s = record { number = n; is = refl; from = omega arith; to = omega arith }
tried (suc k) n s = one (is_some (named s root (own_name n))) (tried k (n + 1) s)
  where
    one : (b : Bool) → IsTried k (n + 1) (free_from k (n + 1) s) → IsTried (suc k) n (if b then free_from k (n + 1) s else own_name n)
    one true t = let a = t.from in let b = t.to in record { number = t.number; is = t.is; from = omega (arith, a); to = omega (arith, b) }
    one false t = record { number = n; is = refl; from = omega arith; to = omega arith }

-- Only the names of the numbers tried matter.
alike : (k n : ℕ) (s t : Subvolume ℕ) → ((j : ℕ) → n ≤ j → j < n + k → named s root (own_name j) ≡ named t root (own_name j)) → free_from k n s ≡ free_from k n t
unfolding free_from
alike zero n s t same = refl
alike (suc k) n s t same =
    ap (λ (o : Option ℕ). if is_some o then free_from k (n + 1) s else own_name n) (same n (omega arith) (omega arith))
    ∙ ap (λ (name : List ℕ). if is_some (named t root (own_name n)) then name else own_name n) (alike k (n + 1) s t (λ j a b. same j (omega (arith, a)) (omega (arith, b))))

empty : (m : Map (ℕ × List ℕ) ℕ) (key : ℕ × List ℕ) → length m ≤ 0 → value_at named_cmp key m ≡ None
empty [] key h = refl
empty (e ∷ m) key h = absurd (omega (arith, h))

pub free_there : (k n : ℕ) (s : Subvolume ℕ) → IsMap named_cmp s.names → length s.names ≤ k → n + k < 2 ^ 64 → named s root (free_from k n s) ≡ None
unfolding free_from
free_there zero n s ordered short small = empty s.names (root, own_name n) short
free_there (suc k) n s ordered short small = one (named s root (own_name n)) refl (free_there k (n + 1) t (without-order named_cmp named_cmp_total named_cmp_exact (root, own_name n) s.names ordered))
  where
    t : Subvolume ℕ
    t = record { inodes = s.inodes; names = without named_cmp (root, own_name n) s.names; next = s.next }

    other : (j : ℕ) → n + 1 ≤ j → j ≤ n + 1 + k → named t root (own_name j) ≡ named s root (own_name j)
    other j a b = without-other named_cmp named_cmp_total named_cmp_exact (root, own_name j) (root, own_name n) s.names
        (λ e. let f : j ≡ n = own_apart j n (omega (arith, b, small)) (omega (arith, small)) (ap (λ (p : ℕ × List ℕ). p.1) e) in omega (arith, a, f))

    one : (o : Option ℕ) → named s root (own_name n) ≡ o → (length t.names ≤ k → n + 1 + k < 2 ^ 64 → named t root (free_from k (n + 1) t) ≡ None) → named s root (if is_some o then free_from k (n + 1) s else own_name n) ≡ None
    one None e ih = e
    one (Some i) e ih =
        let l : cond (is_some (named s root (own_name n))) 1 0 + length t.names ≡ length s.names = length_without named_cmp named_cmp_total (root, own_name n) s.names ordered in
        let m : ◌≡◌ {A = ℕ} (cond (is_some (named s root (own_name n))) 1 0) 1 = ap (λ (o : Option ℕ). cond (is_some o) 1 0) e in
        let there : named t root (free_from k (n + 1) t) ≡ None = ih (omega (arith, l, m, short)) (omega (arith, small)) in
        let w = tried k (n + 1) s in
        let same : free_from k (n + 1) t ≡ free_from k (n + 1) s = alike k (n + 1) t s (λ j a b. other j a (omega (arith, b))) in
        let moved : named t root (own_name w.number) ≡ None = subst (λ (name : List ℕ). named t root name ≡ None) (same ∙ w.is) there in
        ap (λ (name : List ℕ). named s root name) w.is ∙ sym (other w.number w.from w.to) ∙ moved

pub free_name_is_free : FreeNameIsFree
unfolding free_name
free_name_is_free s sound short = free_there (length s.names) 0 s sound.names_in_order (omega arith) (omega (arith, short))

-- ---- the name is one

abbrev AreDigits : List ℕ → Type 0
AreDigits ds = AllByRecursion (λ b. (48 ≤ b) × (b ≤ 57)) ds

decimal_digits : (n : ℕ) → n < 2 ^ 64 → AreDigits (decimal n)
decimal_digits n low =
    decimal_by_steps (λ m ds. AreDigits ds) (λ m h. ((omega (arith, h), omega (arith, h)), tt))
    (λ m ds h more. all_both (λ b. (48 ≤ b) × (b ≤ 57)) ds ((48 + m % 10) ∷ []) more ((omega arith, omega arith), tt)) n (omega (arith, low))

either : (b : Bool) → (b ≡ true → b ≡ false) → b ≡ false
either true n = n refl
either false n = refl

no_byte : (n : ℕ) (ds : List ℕ) → n < 48 → AreDigits ds → list_any (λ b. b == n) ds ≡ false
no_byte n [] low all = refl
no_byte n (d ∷ ds) low all =
    let apart : (d == n) ≡ false = either (d == n) (λ e. let same = eqb-true d n e in absurd (omega (arith, low, all.0.0, same))) in
    rw apart (no_byte n ds low all.1)

own_is_name : (n : ℕ) → n < 2 ^ 64 → is_name (own_name n) ≡ true
unfolding is_name
own_is_name n low =
    let ds : List ℕ = decimal n in
    let all = decimal_digits n low in
    let len : length ds ≤ 20 = length-decimal-le 20 n (omega arith) (omega (arith, low)) (omega (arith, low)) in
    let a : nat_le 1 (length (own_name n)) ≡ true = le-leb 1 (length (own_name n)) (omega arith) in
    let b : nat_le (length (own_name n)) 255 ≡ true = le-leb (length (own_name n)) 255 (omega (arith, len)) in
    rw (a, b, no_byte slash ds (omega arith) all, no_byte 0 ds (omega arith) all) refl

own_split : (n : ℕ) → n < 2 ^ 64 → path_names (own_name n) ≡ Some (own_name n ∷ [])
own_split n low =
    let ds : List ℕ = decimal n in
    let len : length ds ≤ 20 = length-decimal-le 20 n (omega arith) (omega (arith, low)) (omega (arith, low)) in
    let alone = no_slash_alone (own_name n) (no_byte slash ds (omega arith) (decimal_digits n low)) in
    path_by_pieces (own_name n) true (omega arith) (omega (arith, len)) (ap (list_all is_name) alone ∙ rw (own_is_name n low) refl) ∙ ap (λ (ns : List (List ℕ)). Some ns) alone

pub sound_can_separate : SoundCanSeparate
unfolding free_name
sound_can_separate s sound short =
    let w = tried (length s.names) 0 s in
    let to = w.to in
    record {
      sound = sound;
      split = subst (λ (name : List ℕ). path_names name ≡ Some (name ∷ [])) (sym w.is) (own_split w.number (omega (arith, to, short)));
      free = free_name_is_free s sound short;
    }

-- It can be said as a path: it is short, and of bytes.
pub free_name_fits : (s : Subvolume ℕ) → length s.names < 2 ^ 64 → (length (free_name s) < 2 ^ 16) × IsBytes (free_name s)
unfolding free_name
free_name_fits s short =
    let w = tried (length s.names) 0 s in
    let to = w.to in
    subst (λ (name : List ℕ). (length name < 2 ^ 16) × IsBytes name) (sym w.is) (own_fits w.number (omega (arith, to, short)))
  where
    digits_bytes : (ds : List ℕ) → AreDigits ds → IsBytes ds
    digits_bytes [] all = tt
    digits_bytes (d ∷ ds) all = let high = all.0.1 in (omega (arith, high), digits_bytes ds all.1)

    own_fits : (n : ℕ) → n < 2 ^ 64 → (length (own_name n) < 2 ^ 16) × IsBytes (own_name n)
    own_fits n low =
        let len : length (decimal n) ≤ 20 = length-decimal-le 20 n (omega arith) (omega (arith, low)) (omega (arith, low)) in
        (omega (arith, len), all_both (λ b. b < 256) (codes "btrsend.") (decimal n) (lit< tt, (lit< tt, (lit< tt, (lit< tt, (lit< tt, (lit< tt, (lit< tt, (lit< tt, tt)))))))) (digits_bytes (decimal n) (decimal_digits n low)))
