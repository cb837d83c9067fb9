-- What a body says is never refused as cut short.
use Rattle.std.specs.Prelude.{◌≡◌, ℕ, zero, suc, Bool, true, false, List, [], ◌∷◌, drop, Result, Ok, Err, if◌then◌else◌}
use Rattle.std.specs.List.{list_all}
use Rattle.std.proofs.Common.{refl}
use Rattle.send_model.specs.Refusal.{Refusal, UnknownCommand, BadAttribute, MissingAttribute, BadTime, Encoded}
use Rattle.send_model.specs.Chain.{◌>>=◌}
use Rattle.send_model.specs.Command.{row, is_encoded, kind_of_number, command_with}
use Rattle.send_model.specs.Spelling.{Attribute, value_of}
use Rattle.send_model.specs.Reading.{attributes_from, attributes_at, attribute_end, attribute_in, attribute_lawful, attribute_number, number16, bytes_at, form_fits, wanted_there, moment_lawful, command_of}
use Rattle.send_model.specs.Attribute.{form_of}
use Rattle.send_model.specs.Lengths.{is_truncated}
use Rattle.tlv_frame.proofs.Uncut.{IsUncut, uncut_bind, uncut_then, uncut_require, uncut_refuse, uncut_found, uncut_ok, uncut_err, uncut_is}
use Rattle.cmd_reader.specs.Commands.{body_read}

attributes_uncut : (n version : ℕ) (seen body : List ℕ) → IsUncut (attributes_from n version seen body)
unfolding attributes_from
attributes_uncut zero version seen body = uncut_ok []
attributes_uncut (suc n) version seen [] = uncut_ok []
attributes_uncut (suc n) version seen (b ∷ bs) =
    let body : List ℕ = b ∷ bs in
    by_lawful (attribute_lawful version seen body) (attributes_from n version (number16 body ∷ seen) (drop (attribute_end version body) body)) (attribute_number body)
    (λ rest. Ok (attribute_in version body ∷ rest))
    (attributes_uncut n version (number16 body ∷ seen) (drop (attribute_end version body) body)) (λ rest. uncut_ok _)
  where
    by_lawful : (b : Bool) (r : Result (List Attribute) Refusal) (number : ℕ) (k : List Attribute → Result (List Attribute) Refusal) → IsUncut r → ((rest : List Attribute) → IsUncut (k rest)) → IsUncut (if b then (r >>= k) else Err (BadAttribute number))
    by_lawful true r number k u v = uncut_bind r k u v
    by_lawful false r number k u v = uncut_err (List Attribute) (BadAttribute number) refl

wanted_uncut : (kinds : List ℕ) (attributes : List Attribute) → IsUncut (wanted_there kinds attributes)
unfolding wanted_there
wanted_uncut [] attributes = uncut_ok tt
wanted_uncut (kind ∷ kinds) attributes = uncut_bind _ _ (uncut_found (value_of kind attributes) (MissingAttribute kind) refl) (λ bytes. uncut_then _ _ (uncut_require (form_fits (form_of kind) bytes) (BadAttribute kind) refl) (wanted_uncut kinds attributes))

command_uncut : (version number : ℕ) (attributes : List Attribute) → IsUncut (command_of version number attributes)
unfolding command_of
command_uncut version number attributes = uncut_then _ _ (uncut_refuse (is_encoded version number) Encoded refl) (uncut_bind _ _ (uncut_found (kind_of_number version number) (UnknownCommand number) refl)
    (λ kind. uncut_then _ _ (wanted_uncut (row kind).wanted attributes) (uncut_then _ _ (uncut_require (list_all (moment_lawful attributes) (row kind).wanted) BadTime refl) (uncut_ok (command_with kind (bytes_at attributes))))))

-- The attributes and the command.
pub body_uncut : (version number : ℕ) (body : List ℕ) (refusal : Refusal) → body_read version number body ≡ Err refusal → is_truncated refusal ≡ false
unfolding attributes_at
body_uncut version number body refusal e =
    uncut_is _ refusal e (uncut_bind _ _ (attributes_uncut _ version [] body) (λ attributes. command_uncut version number attributes))
