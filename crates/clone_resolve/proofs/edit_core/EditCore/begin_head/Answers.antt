-- The head's entry and its start.
use Rattle.std.proofs.Common.{◌≡◌, refl, ◌∙◌}
use Rattle.std.proofs.lemmas.Result.{err_from_is_err_and}
use Rattle.clone_resolve.specs.Heads.{head_meant}
use Rattle.clone_resolve.proofs.HeadLaws.{begins, has_start, begin_stops}
use Rattle.clone_resolve.proofs.edit_core.EditCore.begin_head.Goals as goal

pub returns-in_err-begin : goal.returns-in_err-begin
returns-in_err-begin g c =
    let p = err_from_is_err_and c.from_residual-in_err-begin.result c.from_residual-in_err-begin.ensures.1 in
    let named : c.from-name.result ≡ c.args.head.now.name.now = c.from-name.ensures ∙ c.in_ok-from_slice.ensures.items in
    let a = rw (named, c.self.view_is) at c.in_err-begin.ensures.added in
    rw (p.1, p.2) (begin_stops c.args.self.now (head_meant c.args.head.now) c.in_err-begin.field-0.0 c.begin.new.self a)

pub returns-in_default : goal.returns-in_default
returns-in_default g c =
    let named : c.from-name.result ≡ c.args.head.now.name.now = c.from-name.ensures ∙ c.in_ok-from_slice.ensures.items in
    let a = rw (named, c.self.view_is) at c.in_ok-begin.ensures.added in
    absurd (has_start c.args.self.now (head_meant c.args.head.now) c.in_ok-start.start a.0 c.in_ok-start.ensures c.in_default.is)

pub returns : goal.returns
returns g c =
    let named : c.from-name.result ≡ c.args.head.now.name.now = c.from-name.ensures ∙ c.in_ok-from_slice.ensures.items in
    let a = rw (named, c.self.view_is) at c.in_ok-begin.ensures.added in
    (begins c.args.self.now (head_meant c.args.head.now) c.in_ok-start.start c.in-Some.sub a.0 c.in_ok-start.ensures c.in-Some.is, refl, a.1)
