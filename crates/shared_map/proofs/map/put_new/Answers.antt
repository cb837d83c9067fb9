use Rattle.std.proofs.Common.{◌≡◌, ◌<◌, ◌+◌, ◌∙◌, length, set, rules}
use Rattle.shared_map.proofs.Parts.{IsPutIn, kept_same}
use Rattle.shared_map.proofs.Spots.{put_free}
use Rattle.shared_map.proofs.map.put_new.Given.{Over}
use Rattle.shared_map.proofs.map.put_new.Goals.{After-shorten}
use Rattle.shared_map.proofs.map.put_new.Goals as goal

-- What the pages are once the entry stands in its page, which may be too long then.
put : (g : Over) (c : After-shorten g)
    → IsPutIn g.K.Key.order (g.Q.Sought.sought c.args.query.now) c.args.pages.now.items (set c.args.pages.now.items c.args.spot.page c.put_at.new.self) c.in-Some.more c.args.value
put g c =
    let did = rw c.in_ok-key.ensures at c.in_ok-put_at.ensures.ok in
    let lt : c.args.spot.page < length c.args.pages.now.items = search rules in
    let more : c.in-Some.more ≡ c.args.len + 1 = search rules in
    put_free g.met.K.Key.total _ _ _ _ _ _ _ c.requires.kept c.index_mut-page.ensures.value c.args.value _ c.requires.free lt did more

pub returns-clause-kept : goal.returns-clause-kept
returns-clause-kept g c = kept_same g.K.Key.order _ _ _ (put g c).kept c.shorten.ensures.same c.shorten.ensures.filled

pub returns-clause-ok : goal.returns-clause-ok
returns-clause-ok g c = c.shorten.ensures.same ∙ (put g c).same
