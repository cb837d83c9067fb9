-- Escaped forms, as a loop goes over them byte by byte.
use Rattle.std.specs.Prelude.{◌≡◌, ◌≢◌, ℕ, ◌<◌, ◌≤◌, ◌+◌, ◌-◌, Bool, true, false, List, [], ◌∷◌, ◌++◌, take, drop, length, Option, None, Some, slice_get, slice_index_or, if◌then◌else◌}
use Rattle.std.specs.Option.{option_map}
use Rattle.std.proofs.Common.{refl, sym, ap, subst, ◌∙◌, arith, append_assoc, append-nil, drop-drop}
use Rattle.std.proofs.lemmas.List.{length-append, length-drop, take_all, drop_all}
use Rattle.send_model.specs.Printed.{is_plain}
use Rattle.program_model.specs.EscapedWords.{escape_of, onto, plain_byte, unescaped, is_escaped_word, meant_by}
use Rattle.escaped_words.specs.Fronts.{StandsFirst}
use Rattle.program_model.proofs.EscapedForms.{plain_first, escape_first}

-- ---- the byte that stands first

same_byte : (x y : ℕ) → Some x ≡ Some y → x ≡ y
same_byte x y e = ap (λ (o : Option ℕ). elim o [ None ↦ x | Some n ↦ n ]) e

pub plain_stands : (form : List ℕ) (byte : ℕ) → Some byte ≡ slice_get form 0 → is_plain byte ≡ true → StandsFirst form byte 1
plain_stands [] byte first plain = cc
plain_stands (x ∷ rest) byte first plain =
    let same : byte ≡ x = same_byte byte x first in
    record {
      some = omega arith;
      within = omega arith;
      read = plain_first x rest (ap is_plain (sym same) ∙ plain) ∙ ap (λ (b : ℕ). onto (Some b) (unescaped rest)) (sym same);
    }

-- A byte that is not plain needs three more.
no_plain : (byte : ℕ) (rest : Option (List ℕ)) → is_plain byte ≡ false → onto (plain_byte byte) rest ≡ None
no_plain byte rest other = ap (λ (b : Bool). onto (if b then Some byte else None) rest) other

pub too_short : (form : List ℕ) (a : ℕ) → Some a ≡ slice_get form 0 → is_plain a ≡ false → length form < 4 → unescaped form ≡ None
unfolding unescaped
too_short [] a first other short = cc
too_short (x ∷ []) a first other short = no_plain x (Some []) (ap is_plain (sym (same_byte a x first)) ∙ other)
too_short (x ∷ b ∷ []) a first other short = no_plain x (unescaped (b ∷ [])) (ap is_plain (sym (same_byte a x first)) ∙ other)
too_short (x ∷ b ∷ c ∷ []) a first other short = no_plain x (unescaped (b ∷ c ∷ [])) (ap is_plain (sym (same_byte a x first)) ∙ other)
too_short (x ∷ b ∷ c ∷ d ∷ rest) a first other short = absurd (omega (arith, short))

-- A byte that is not plain, and what the three behind it make of it.
abbrev pub escape_in : List ℕ → (a first second third : ℕ) → Option ℕ
escape_in form a first second third = escape_of a (slice_index_or form 1 first) (slice_index_or form 2 second) (slice_index_or form 3 third)

escape_is : (form : List ℕ) (a first second third : ℕ) (o : Option ℕ) → Some a ≡ slice_get form 0 → is_plain a ≡ false → 4 ≤ length form
    → o ≡ escape_in form a first second third → unescaped form ≡ onto o (unescaped (drop 4 form))
escape_is [] a first second third o here other long is = cc
escape_is (x ∷ []) a first second third o here other long is = absurd (omega (arith, long))
escape_is (x ∷ b ∷ []) a first second third o here other long is = absurd (omega (arith, long))
escape_is (x ∷ b ∷ c ∷ []) a first second third o here other long is = absurd (omega (arith, long))
escape_is (x ∷ b ∷ c ∷ d ∷ rest) a first second third o here other long is =
    let same : a ≡ x = same_byte a x here in
    escape_first x b c d rest (ap is_plain (sym same) ∙ other)
    ∙ ap (λ (e : Option ℕ). onto e (unescaped rest)) (sym (is ∙ ap (λ (k : ℕ). escape_of k b c d) same))

pub escape_stands : (form : List ℕ) (a byte first second third : ℕ) → Some a ≡ slice_get form 0 → is_plain a ≡ false → 4 ≤ length form
    → Some byte ≡ escape_in form a first second third → StandsFirst form byte 4
escape_stands form a byte first second third here other long is =
    record { some = omega arith; within = long; read = escape_is form a first second third (Some byte) here other long is }

pub no_escape : (form : List ℕ) (a first second third : ℕ) → Some a ≡ slice_get form 0 → is_plain a ≡ false → 4 ≤ length form
    → None ≡ escape_in form a first second third → unescaped form ≡ None
no_escape form a first second third here other long is = escape_is form a first second third None here other long is

-- ---- bytes one after the other

-- What stands in front of the rest of the bytes.
abbrev pub ahead : List ℕ → Option (List ℕ) → Option (List ℕ)
ahead done None = None
ahead done (Some more) = Some (done ++ more)

-- A form is read so far: these bytes, and what is left.
pub record IsReadTo (form done left : List ℕ) : Type 0 where
  pub is : unescaped form ≡ ahead done (unescaped left)

-- Only how many bytes these are is known.
pub record IsCountedTo (form left : List ℕ) (count : ℕ) : Type 0 where
  pub done : List ℕ
  pub as_many : length done ≡ count
  pub read : IsReadTo form done left

ahead_none : (o : Option (List ℕ)) → o ≡ ahead [] o
ahead_none None = refl
ahead_none (Some more) = refl

ahead_onto : (done : List ℕ) (byte : ℕ) (o : Option (List ℕ)) → ahead done (onto (Some byte) o) ≡ ahead (done ++ byte ∷ []) o
ahead_onto done byte None = refl
ahead_onto done byte (Some more) = ap (λ (l : List ℕ). Some l) (sym (append_assoc done (byte ∷ []) more))

pub starts : (form : List ℕ) → IsReadTo form [] form
starts form = record { is = ahead_none (unescaped form) }

-- What stands behind a place, as a slice.
pub behind : (at : ℕ) (form : List ℕ) → take (length form - at) (drop at form) ≡ drop at form
behind at form = take_all (length form - at) (drop at form) (omega (arith, length-drop at form))

pub reads_on : (form done : List ℕ) (at byte len : ℕ) → StandsFirst (take (length form - at) (drop at form)) byte len → IsReadTo form done (drop at form)
    → IsReadTo form (done ++ byte ∷ []) (drop (at + len) form)
reads_on form done at byte len first read =
    let here : StandsFirst (drop at form) byte len = subst (λ (l : List ℕ). StandsFirst l byte len) (behind at form) first in
    record {
      is = read.is ∙ ap (λ (o : Option (List ℕ)). ahead done o) here.read ∙ ahead_onto done byte (unescaped (drop len (drop at form)))
          ∙ ap (λ (l : List ℕ). ahead (done ++ byte ∷ []) (unescaped l)) (drop-drop len at form ∙ ap (λ (k : ℕ). drop k form) (omega arith));
    }

pub counts_on : (form : List ℕ) (at count byte len : ℕ) → StandsFirst (take (length form - at) (drop at form)) byte len → IsCountedTo form (drop at form) count
    → IsCountedTo form (drop (at + len) form) (count + 1)
counts_on form at count byte len first read = record {
  done = read.done ++ byte ∷ [];
  as_many = length-append read.done (byte ∷ []) ∙ ap (λ (k : ℕ). k + 1) read.as_many;
  read = reads_on form read.done at byte len first read.read;
}

pub none_behind : (form done : List ℕ) (at : ℕ) → (take (length form - at) (drop at form) ≢ [] → unescaped (take (length form - at) (drop at form)) ≡ None) → at < length form
    → IsReadTo form done (drop at form) → unescaped form ≡ None
none_behind form done at none less read =
    let left : unescaped (drop at form) ≡ None = subst (λ (l : List ℕ). unescaped l ≡ None) (behind at form) (none (some (drop at form) (omega (arith, length-drop at form, less)))) in
    read.is ∙ ap (λ (o : Option (List ℕ)). ahead done o) left
  where
    some : (left : List ℕ) → 0 < length left → take (length form - at) (drop at form) ≢ []
    some left more e = absurd (omega (arith, ap (λ (l : List ℕ). length l) (sym (behind at form) ∙ e), length-drop at form, less))

pub all_read : (form done : List ℕ) (at : ℕ) → length form ≤ at → IsReadTo form done (drop at form) → unescaped form ≡ Some done
unfolding unescaped
all_read form done at past read =
    read.is ∙ ap (λ (l : List ℕ). ahead done (unescaped l)) (drop_all at form past) ∙ ap (λ (l : List ℕ). Some l) (append-nil done)

-- ---- words

pub plain_word : (word : List ℕ) → is_escaped_word word ≡ false → meant_by word ≡ Some word
plain_word word is = ap (λ (b : Bool). if b then unescaped (drop 8 word) else Some word) is

pub escaped_word : (word form : List ℕ) (o : Option (List ℕ)) → is_escaped_word word ≡ true → form ≡ drop 8 word → unescaped form ≡ o → meant_by word ≡ o
escaped_word word form o is form_is read =
    ap (λ (b : Bool). if b then unescaped (drop 8 word) else Some word) is ∙ ap unescaped (sym form_is) ∙ read

pub counted : (word form : List ℕ) (at count : ℕ) → is_escaped_word word ≡ true → form ≡ drop 8 word → length form ≤ at → IsCountedTo form (drop at form) count
    → Some count ≡ option_map length (meant_by word)
counted word form at count is form_is past read =
    sym (ap (λ (o : Option (List ℕ)). option_map length o) (escaped_word word form (Some read.done) is form_is (all_read form read.done at past read.read))
    ∙ ap (λ (k : ℕ). Some k) read.as_many)
