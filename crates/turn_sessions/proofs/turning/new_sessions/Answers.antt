use Rattle.std.specs.Prelude.{◌≡◌, ◌<◌, ◌≤◌, ◌+◌, ◌++◌, ◌∷◌, [], ℕ, List, length, map, drop, slice_index_or}
use Rattle.std.specs.String.{string_bytes}
use Rattle.std.proofs.Common.{sym, ap, subst, ◌∙◌, arith, append-nil, append_assoc}
use Rattle.cmd_reader.specs.Left.{at_start}
use Rattle.turn_sessions.specs.declared.session.Session.{Session}
use Rattle.turn_sessions.specs.Going.{AreNew}
use Rattle.turn_sessions.proofs.Opening.{next_name, no_names, one_new, none_new}
use Rattle.turn_sessions.proofs.turning.new_sessions.Goals as goal

pub loop-place-preserved : goal.loop-place-preserved
loop-place-preserved g c =
    let i = c.loop-place.invariant in
    let names : List (List ℕ) = map string_bytes c.args.files.now in
    let some : 0 < length c.loop-place.rest.items = omega (arith, i.count, c.loop-place-test.true) in
    record {
      count = omega (arith, c.remove-own.ensures.len, i.count);
      new = λ others more.
          subst (λ (l : List (Session g.row.G.Denot)). AreNew 1 (map string_bytes c.args.files.now) c.args.guards.items (l ++ others)) (sym c.in_ok-push.ensures.items)
          (subst (λ (l : List (Session g.row.G.Denot)). AreNew 1 (map string_bytes c.args.files.now) c.args.guards.items l) (sym (append_assoc c.loop-place.sessions.items (c.in-Ok.session ∷ []) others))
          (i.new (c.in-Ok.session ∷ others)
          (one_new (c.loop-place.place + 1) (drop c.loop-place.place names) (drop (c.loop-place.place + 1) names) (string_bytes (slice_index_or c.args.files.now c.loop-place.place c.index-files-place.result)) c.loop-place.rest.items c.remove-own.new.self.items c.remove-own.result c.in-Ok.session others
          (next_name string_bytes c.args.files.now c.loop-place.place c.index-files-place.result c.loop-place-test.true) some c.remove-own.ensures.value c.remove-own.ensures.items
          (record {
            file = c.in-Ok.ensures.file;
            reader = c.in-Ok.ensures.reader ∙ ap (at_start (c.loop-place.place + 1)) c.as_str.ensures.value
                ∙ ap (λ (name : _). at_start (c.loop-place.place + 1) (string_bytes name)) c.index-files-place.is;
            own = c.in-Ok.ensures.guards;
            none = c.in-Ok.ensures.none;
            going = c.in-Ok.ensures.going;
          })
          more)));
    }

pub returns : goal.returns
returns g c =
    let i = c.loop-place.invariant in
    let names : List (List ℕ) = map string_bytes c.args.files.now in
    let over : length c.args.files.now ≤ c.loop-place.place = omega (arith, c.loop-place-test.false) in
    let none : length c.loop-place.rest.items ≡ 0 = omega (arith, i.count, over) in
    subst (λ (l : List (Session g.row.G.Denot)). AreNew 1 (map string_bytes c.args.files.now) c.args.guards.items l) (append-nil c.loop-place.sessions.items)
    (i.new [] (none_new (c.loop-place.place + 1) (drop c.loop-place.place names) c.loop-place.rest.items (no_names string_bytes c.args.files.now c.loop-place.place over) none))
