-- What is read of one file, by whether it is too long.
use Rattle.std.specs.Prelude.{◌≡◌, ℕ, ◌+◌, Bool, true, false, List, [], ◌∷◌, take, if◌then◌else◌}
use Rattle.std.proofs.Common.{refl, sym, ap, subst, ◌∙◌, append-nil}
use Rattle.send_model.specs.Reading.{Item, Verdict, Ending, Whole, Faulty, Reading, reads}
use Rattle.send_model.specs.Lengths.{limit, is_too_long}
use Rattle.send_model.specs.Due.{Limited, AtFault, AtLimit, limited_from, then_limited}
use Rattle.auditor.specs.Following.{file_read, read_whole}

abbrev pub nothing_more : Limited
nothing_more = read_whole []

abbrev pub by_length : Bool → ℕ → List ℕ → Limited → Limited
by_length true file bytes more = record { items = (reads file (take limit bytes)).items; stop = AtLimit file }
by_length false file bytes more = then_limited (reads file bytes).items (reads file bytes).end more

pub read_is : (file : ℕ) (bytes : List ℕ) (files : List (List ℕ)) → limited_from file (bytes ∷ files) ≡ by_length (is_too_long file bytes) file bytes (limited_from (file + 1) files)
unfolding limited_from
read_is file bytes files = one (is_too_long file bytes)
  where
    one : (b : Bool) → (if b then record { items = (reads file (take limit bytes)).items; stop = AtLimit file } else then_limited (reads file bytes).items (reads file bytes).end (limited_from (file + 1) files)) ≡ by_length b file bytes (limited_from (file + 1) files)
    one true = refl
    one false = refl

alone : (file : ℕ) (bytes : List ℕ) (b : Bool) → is_too_long file bytes ≡ b → file_read file bytes ≡ by_length b file bytes nothing_more
unfolding limited_from
alone file bytes b e = read_is file bytes [] ∙ ap (λ (x : Bool). by_length x file bytes nothing_more) e

then_end : (items : List Item) (ending : Ending) (r : Reading) → r ≡ record { items = items; end = ending } → then_limited r.items r.end nothing_more ≡ then_limited items ending nothing_more
then_end items ending r e = ap (λ (x : Reading). then_limited x.items x.end nothing_more) e

-- A file that is read whole.
pub whole_read : (file : ℕ) (bytes : List ℕ) (items : List Item) → is_too_long file bytes ≡ false → reads file bytes ≡ record { items = items; end = Whole } → file_read file bytes ≡ read_whole items
whole_read file bytes items fits read = alone file bytes false fits ∙ then_end items Whole (reads file bytes) read ∙ ap read_whole (append-nil items)

-- One that breaks a rule.
pub fault_read : (file : ℕ) (bytes : List ℕ) (items : List Item) (verdict : Verdict) → is_too_long file bytes ≡ false → reads file bytes ≡ record { items = items; end = Faulty verdict } → file_read file bytes ≡ record { items = items; stop = AtFault verdict }
fault_read file bytes items verdict fits read = alone file bytes false fits ∙ then_end items (Faulty verdict) (reads file bytes) read

-- One that is too long.
pub long_read : (file : ℕ) (bytes : List ℕ) (items : List Item) → is_too_long file bytes ≡ true → (reads file (take limit bytes)).items ≡ items → file_read file bytes ≡ record { items = items; stop = AtLimit file }
long_read file bytes items long read = alone file bytes true long ∙ ap (λ (is : List Item). record { items = is; stop = AtLimit file }) read

-- Of a file either all its items are read, or those before the limit.
pub read_either : (P : List Item → Type 0) (file : ℕ) (bytes : List ℕ) → P (reads file bytes).items → P (reads file (take limit bytes)).items → P (file_read file bytes).items
read_either P file bytes all front = subst (λ (l : Limited). P l.items) (sym (alone file bytes (is_too_long file bytes) refl)) (by_long (is_too_long file bytes))
  where
    by_end : (items : List Item) (ending : Ending) → P items → P (then_limited items ending nothing_more).items
    by_end items Whole p = subst P (sym (append-nil items)) p
    by_end items (Faulty verdict) p = p

    by_long : (b : Bool) → P (by_length b file bytes nothing_more).items
    by_long true = front
    by_long false = by_end (reads file bytes).items (reads file bytes).end all
