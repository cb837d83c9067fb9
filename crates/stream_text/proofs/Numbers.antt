-- Values that are numbers, moments and identifiers, as they are read.
use Rattle.std.specs.Prelude.{◌≡◌, ◌≢◌, ℕ, ◌^◌, ◌<◌, ◌==◌, Bool, true, false, List, length, if◌then◌else◌}
use Rattle.std.specs.Fmt.{decimal}
use Rattle.std.specs.Int.{w32, w64, to_le_bytes}
use Rattle.std.proofs.Common.{sym, ap, ◌∙◌}
use Rattle.send_model.specs.Attribute.{ANumber, AShortNumber, AMoment, NoForm, form_of, Identifier, Number, ShortNumber, Moment, Bytes, Time, second, MODE}
use Rattle.send_model.specs.Printed.{octal, time_text}
use Rattle.stream_text.specs.ValueReading.{AddsAttribute, ReadsValue}

abbrev number_text : Bool → ℕ → List ℕ
number_text mode n = if mode then octal n else decimal n

-- No number has this text.
pub number_none : (version kind : ℕ) (mode : Bool) (text old new : List ℕ) → form_of kind ≡ ANumber → (kind == MODE) ≡ mode
    → ((m : ℕ) → m < 2 ^ 64 → number_text mode m ≢ text) → ReadsValue version kind text old new false
number_none version kind mode text old new any is none (Number m) v says = none m v.1 (ap (λ (b : Bool). number_text b m) (sym is) ∙ says)
number_none version kind mode text old new any is none (Identifier a) v says = absurd (let e : form_of kind ≡ ANumber = any in let f = v.0 in cc)
number_none version kind mode text old new any is none (ShortNumber a) v says = absurd (let e : form_of kind ≡ ANumber = any in let f = v.0 in cc)
number_none version kind mode text old new any is none (Moment a) v says = absurd (let e : form_of kind ≡ ANumber = any in let f = v.0 in cc)
number_none version kind mode text old new any is none (Bytes a) v says = absurd (let e : form_of kind ≡ ANumber = any in let f = v.0 in cc)

pub short_none : (version kind : ℕ) (text old new : List ℕ) → form_of kind ≡ AShortNumber → ((m : ℕ) → m < 2 ^ 32 → decimal m ≢ text) → ReadsValue version kind text old new false
short_none version kind text old new any none (ShortNumber m) v says = none m v.1 says
short_none version kind text old new any none (Number a) v says = absurd (let e : form_of kind ≡ AShortNumber = any in let f = v.0 in cc)
short_none version kind text old new any none (Identifier a) v says = absurd (let e : form_of kind ≡ AShortNumber = any in let f = v.0 in cc)
short_none version kind text old new any none (Moment a) v says = absurd (let e : form_of kind ≡ AShortNumber = any in let f = v.0 in cc)
short_none version kind text old new any none (Bytes a) v says = absurd (let e : form_of kind ≡ AShortNumber = any in let f = v.0 in cc)

pub time_none : (version kind : ℕ) (text old new : List ℕ) → form_of kind ≡ AMoment → ((t : Time) → t.secs < 2 ^ 64 → t.nanos < second → time_text t ≢ text) → ReadsValue version kind text old new false
time_none version kind text old new any none (Moment t) v says = none t v.1.0 v.1.1 says
time_none version kind text old new any none (Number a) v says = absurd (let e : form_of kind ≡ AMoment = any in let f = v.0 in cc)
time_none version kind text old new any none (Identifier a) v says = absurd (let e : form_of kind ≡ AMoment = any in let f = v.0 in cc)
time_none version kind text old new any none (ShortNumber a) v says = absurd (let e : form_of kind ≡ AMoment = any in let f = v.0 in cc)
time_none version kind text old new any none (Bytes a) v says = absurd (let e : form_of kind ≡ AMoment = any in let f = v.0 in cc)

-- A value of few bytes always has room.
pub few_fit : (version kind : ℕ) (bytes old new : List ℕ) → length bytes < 2 ^ 16 → AddsAttribute version kind bytes old new false → ⊥
few_fit version kind bytes old new few long = long (λ rest. few)

pub number_read : (version kind : ℕ) (mode : Bool) (n : ℕ) (text old new : List ℕ) → form_of kind ≡ ANumber → (kind == MODE) ≡ mode → n < 2 ^ 64 → number_text mode n ≡ text
    → AddsAttribute version kind (to_le_bytes w64 n) old new true → ReadsValue version kind text old new true
number_read version kind mode n text old new any is small says a = (Number n, (any, small), ap (λ (b : Bool). number_text b n) is ∙ says, a.1)

pub short_read : (version kind n : ℕ) (text old new : List ℕ) → form_of kind ≡ AShortNumber → n < 2 ^ 32 → decimal n ≡ text
    → AddsAttribute version kind (to_le_bytes w32 n) old new true → ReadsValue version kind text old new true
short_read version kind n text old new any small says a = (ShortNumber n, (any, small), says, a.1)

-- No value has the form of this number.
pub no_form : (version kind : ℕ) (text old new : List ℕ) → form_of kind ≡ NoForm → ReadsValue version kind text old new false
no_form version kind text old new none (Identifier a) v says = absurd (let e : form_of kind ≡ NoForm = none in let f = v.0 in cc)
no_form version kind text old new none (Number a) v says = absurd (let e : form_of kind ≡ NoForm = none in let f = v.0 in cc)
no_form version kind text old new none (ShortNumber a) v says = absurd (let e : form_of kind ≡ NoForm = none in let f = v.0 in cc)
no_form version kind text old new none (Moment a) v says = absurd (let e : form_of kind ≡ NoForm = none in let f = v.0 in cc)
no_form version kind text old new none (Bytes a) v says = absurd (let e : form_of kind ≡ NoForm = none in let f = v.0 in cc)
