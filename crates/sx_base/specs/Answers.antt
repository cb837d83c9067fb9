-- What a call answers and leaves, by what the definitions say of it. This program's own.
use Rattle.std.specs.Prelude.{◌≡◌, Result, Ok, Err}
use Rattle.send_model.specs.Refusal as meant
use Rattle.sx_base.specs.declared.refusal.Refusal.{Refusal}
use Rattle.sx_base.specs.declared.stop.Stop.{Stop}
use Rattle.sx_base.specs.declared.stop.Stop.TheVariants as stop
use Rattle.sx_base.specs.Refusals.{refusal_of}

-- The answer, seen by view, is exactly what is said: the same value, or the same refusal.
abbrev pub Reads : {X Y : Type 0} → (X → Y) → Result X Refusal → Result Y meant.Refusal → Type 0
Reads view (Ok x) said = said ≡ Ok (view x)
Reads view (Err refusal) said = said ≡ Err (refusal_of refusal)

-- The same of a value that is seen as itself.
abbrev pub Finds : {X : Type 0} → Result X Refusal → Result X meant.Refusal → Type 0
Finds answer said = Reads (λ x. x) answer said

-- The same of a call that takes memory, which may answer that there is none.
abbrev pub Gives : {X Y : Type 0} → (X → Y) → Result X Stop → Result Y meant.Refusal → Type 0
Gives view (Ok x) said = said ≡ Ok (view x)
Gives view (Err (stop.Refused refusal)) said = said ≡ Err (refusal_of refusal)
Gives view (Err stop.NoMemory) said = Unit {0}

-- The old value becomes the one that is said, or the call refuses by the same refusal and changes
-- nothing. Where there is no memory nothing is said of the value.
abbrev pub MayChange : {A S : Type 0} → Result A Stop → S → S → Result S meant.Refusal → Type 0
MayChange (Ok _) old new said = said ≡ Ok new
MayChange (Err (stop.Refused refusal)) old new said =
    (said ≡ Err (refusal_of refusal)) × (new ≡ old)
MayChange (Err stop.NoMemory) old new said = Unit {0}
