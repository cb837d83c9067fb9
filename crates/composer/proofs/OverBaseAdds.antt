-- The bytes that each sort of command adds, as code has to write them.
use Rattle.std.specs.Prelude.{◌≡◌, ℕ, Bool, true, false, List, [], ◌∷◌, Some, if◌then◌else◌}
use Rattle.std.specs.List.{flat_map, sum_by}
use Rattle.std.proofs.lemmas.List.Sums.{sum_by-cons}
use Rattle.send_model.specs.Reading.{Item}
use Rattle.send_model.specs.Due.{uncarried_of}
use Rattle.std.proofs.Common.{refl, ap, ◌∙◌, append-nil, arith}
use Rattle.send_model.specs.Command.{Command, Subvol, Snapshot, Clone, End}
use Rattle.send_model.specs.Spelling.{canonical_all}
use Rattle.send_model.specs.Store.{Head, head_of}
use Rattle.send_model.specs.Provenance.{Piece, literal_len, uncarried_in, is_redirected, clone_range, pieces_of}
use Rattle.send_model.specs.Composed.{piece_commands}
use Rattle.composer.specs.OverBase.{Plan, Composing, begin_bytes, added_with}

-- A head begins the stream or adds nothing.
pub adds_head : (plan : Plan) (now : Composing) (last : Head) (c : Command) (head : Head) → head_of c ≡ Some head → added_with plan now (Some last) c ≡ begin_bytes plan.version now.begun last (Some head)
unfolding canonical_all
adds_head plan now last (Subvol uuid ctransid path) head h = append-nil _ ∙ ap (begin_bytes plan.version now.begun last) h
adds_head plan now last (Snapshot uuid ctransid path clone_uuid clone_ctransid) head h = append-nil _ ∙ ap (begin_bytes plan.version now.begun last) h
adds_head plan now last c head h = cc

-- END adds nothing.
pub adds_end : (plan : Plan) (now : Composing) (last : Head) → added_with plan now (Some last) End ≡ []
unfolding canonical_all
adds_end plan now last = refl

-- ---- clones

module _ (plan : Plan) (now : Composing) (last : Head) (path : List ℕ) (offset : ℕ) (uuid : List ℕ) (ctransid : ℕ) (clone_path : List ℕ) (from len : ℕ) where
  abbrev this : Command
  this = Clone path offset uuid ctransid clone_path from len

  abbrev own_commands : List Command
  own_commands = Clone path offset last.key.uuid last.key.ctransid clone_path from len ∷ []

  abbrev redirected_commands : List Command
  redirected_commands = flat_map (piece_commands plan.base path offset) (pieces_of plan.base (clone_range now.state (Clone path offset uuid ctransid clone_path from len)))

  abbrev chosen : Bool → Bool → List ℕ
  chosen own redirected = canonical_all plan.version (if own then own_commands else (if redirected then redirected_commands else this ∷ []))

-- ---- the sum of uncarried bytes

-- A redirected clone adds the literal bytes among its pieces.
pub sum_redirected : (plan : Plan) (now : Composing) (item : Item) → is_redirected plan.parts now.current item.command ≡ true
    → uncarried_of plan.base plan.parts now.state now.current item ≡ sum_by literal_len (pieces_of plan.base (clone_range now.state item.command))
sum_redirected plan now item h =
    let pieces : List Piece = pieces_of plan.base (clone_range now.state item.command) in
    let one = sum_by-cons (λ (ps : List Piece). sum_by literal_len ps) pieces [] in
    ap (λ (b : Bool). if b then uncarried_in plan.base (clone_range now.state item.command ∷ []) else 0) h ∙ omega (arith, one)

-- Any other command adds none.
pub sum_same : (plan : Plan) (now : Composing) (item : Item) → is_redirected plan.parts now.current item.command ≡ false → uncarried_of plan.base plan.parts now.state now.current item ≡ 0
sum_same plan now item h = ap (λ (b : Bool). if b then uncarried_in plan.base (clone_range now.state item.command ∷ []) else 0) h
