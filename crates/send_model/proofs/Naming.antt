-- The keys that composed commands name.
use Rattle.std.specs.Prelude.{◌≡◌, ℕ, zero, suc, ◌+◌, List, [], ◌∷◌, ◌++◌, length, drop}
use Rattle.std.specs.List.{AllByRecursion, flat_map}
use Rattle.std.proofs.Common.{refl, sym, ap, subst, ◌∙◌, append_assoc}
use Rattle.send_model.specs.Command.{Command}
use Rattle.send_model.specs.Store.{Key, Store}
use Rattle.send_model.specs.Outside.{IsAmong, keys_named, all_keys_named}
use Rattle.send_model.specs.Provenance.{Piece, Carried, Literal}
use Rattle.send_model.specs.Composed.{write_len, writes_from, piece_commands}
use Rattle.send_model.proofs.ElementLaws.{all_both}
use Rattle.send_model.proofs.Carrying.{Covers}

pub named_append : (cs ds : List Command) → all_keys_named (cs ++ ds) ≡ all_keys_named cs ++ all_keys_named ds
named_append [] ds = refl
named_append (c ∷ cs) ds = ap (λ (ks : List Key). keys_named c ++ ks) (named_append cs ds) ∙ sym (append_assoc (keys_named c) (all_keys_named cs) (all_keys_named ds))

pub all_named : (P : Key → Type 0) (cs ds : List Command) → AllByRecursion P (all_keys_named cs) → AllByRecursion P (all_keys_named ds) → AllByRecursion P (all_keys_named (cs ++ ds))
all_named P cs ds a b = subst (λ (ks : List Key). AllByRecursion P ks) (sym (named_append cs ds)) (all_both P (all_keys_named cs) (all_keys_named ds) a b)

writes_name : (n at : ℕ) (path bytes : List ℕ) → all_keys_named (writes_from n path at bytes) ≡ []
writes_name zero at path bytes = refl
writes_name (suc n) at path [] = refl
writes_name (suc n) at path (b ∷ bytes) = writes_name n (at + write_len) path (drop write_len (b ∷ bytes))

-- The commands of the pieces of a range name outside keys alone.
pub pieces_named : (store : Store ℕ) (keys : List Key) (path : List ℕ) (offset at : ℕ) (ps : List Piece) (bytes : List ℕ) → Covers store keys at ps bytes
    → AllByRecursion (λ key. IsAmong key keys) (all_keys_named (flat_map (piece_commands store path offset) ps))
pieces_named store keys path offset at [] bytes c = tt
pieces_named store keys path offset at (Literal here own ∷ ps) bytes c =
    let P : Key → Type 0 = λ key. IsAmong key keys in
    all_named P (writes_from (length own) path (offset + here) own) (flat_map (piece_commands store path offset) ps)
    (subst (λ (ks : List Key). AllByRecursion P ks) (sym (writes_name (length own) (offset + here) path own)) tt) (pieces_named store keys path offset (at + length own) ps c.1 c.3)
pieces_named store keys path offset at (Carried here place len ∷ ps) bytes c = (c.2.among, pieces_named store keys path offset (at + len) ps c.3 c.5)
