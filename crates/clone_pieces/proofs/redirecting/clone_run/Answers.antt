use Rattle.std.specs.Prelude.{IfSome}
use Rattle.std.proofs.Common.{◌<◌, ◌^◌, length, ap, subst, arith}
use Rattle.clone_pieces.proofs.redirecting.clone_run.Goals as goal

pub put_clone-requires-clause-clone_path : goal.put_clone-requires-clause-clone_path
put_clone-requires-clause-clone_path g c =
    let short = subst (λ o. IfSome o (λ path. length path < 2 ^ 16)) c.in-Some.is c.in-Ok.ensures.short in
    omega (arith, short, ap length c.as_slice.ensures.bytes)
