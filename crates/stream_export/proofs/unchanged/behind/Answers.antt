use Rattle.std.proofs.Common.{rules, ◌≡◌, ◌+◌, ◌++◌, IfSome, nat_eq, subst, true, false, length, take, drop, sym, Option, Some, None, List, ℕ, Bor}
use Rattle.std.specs.Int.{w16, to_le_bytes}
use Rattle.std.specs.Option.{MatchOption}
use Rattle.std.specs.Cmp.Lexicographic.{pointwise, same_text}
use Rattle.send_model.specs.Spelling.{attribute_bytes}
use Rattle.stream_export.proofs.ReadFrames.{behind_head}
use Rattle.stream_export.proofs.unchanged.behind.Goals as goal

-- What is left of bytes behind others, if these stand in front.
by_rest : (o : Option (Bor (List ℕ))) (bytes front : List ℕ) (P : List ℕ → Type 0) → MatchOption o (pointwise nat_eq (take (length front) bytes) front ≡ false)
    (λ x. (pointwise nat_eq (take (length front) bytes) front ≡ true) × (x.now ≡ drop (length front) bytes) × (length x.now + length front ≡ length bytes))
    → (take (length front) bytes ≡ front → P (drop (length front) bytes)) → IfSome o (λ x. P x.now)
by_rest None bytes front P m p = tt
by_rest (Some x) bytes front P (same, is, long) p = subst P (sym is) (p (same_text (take (length front) bytes) front (sym same)))

pub returns : goal.returns
returns c =
    let number_is : take 2 c.args.body.now ≡ to_le_bytes w16 c.args.kind = search rules in
    let len_is : take 2 (drop 2 c.args.body.now) ≡ to_le_bytes w16 (length c.args.bytes.now) = search rules in
    record {
      rest = by_rest c.strip_prefix.result c.split_at.result.1.now c.args.bytes.now (λ rest. c.args.body.now ≡ attribute_bytes 1 (record { kind = c.args.kind; bytes = c.args.bytes.now }) ++ rest) c.strip_prefix.ensures.cases
          (behind_head c.args.kind c.args.body.now c.args.bytes.now c.split_at.result.1.now number_is len_is c.split_at.ensures.back);
    }
