use Rattle.std.proofs.Common.{◌≡◌, sym, ap, subst, ◌∙◌, ℕ, List, Some, None}
use Rattle.send_model.specs.Map.{Map, bytes_cmp, without}
use Rattle.send_model.specs.Subvolume.{walk}
use Rattle.shared_map.specs.Sought.{entry_after}
use Rattle.path_walk.specs.Ahead.{Grows, HasEntries}
use Rattle.path_walk.specs.Passing.{IsPassed, IsAhead, Learns}
use Rattle.path_walk.proofs.Passes.{next_is, none_is, next_walks, grown_ahead, passed_ahead, learnt_firsts, passed_firsts, steps_view, stays_view, steps_to, steps_nowhere}
use Rattle.path_walk.proofs.paths.Paths.next.Goals as goal

pub returns-in_default-clause-steps : goal.returns-in_default-clause-steps
returns-in_default-clause-steps g c =
    let found : entry_after bytes_cmp c.self.inside.at c.self.inside.ahead ≡ None = ap (λ (k : List ℕ). entry_after bytes_cmp k c.self.inside.ahead) (sym (c.new.ensures ∙ c.as_slice.ensures.bytes)) ∙ sym c.in_default.ensures in
    stays_view c.args.self.now c.self.inside.tree.now c.self.inside.at c.self.view_is
    (steps_nowhere c.self.inside.tree.now c.self.inside.at (none_is c.self.inside.tree.now c.self.invariant.lawful c.self.inside.at c.self.inside.ahead c.self.invariant.ahead_is found))

pub add_entries-requires-clause-leads : goal.add_entries-requires-clause-leads
add_entries-requires-clause-leads g c =
    let s = c.self.inside.tree.now in
    let at : List ℕ = c.self.inside.at in
    let ahead = c.self.inside.ahead in
    let lawful = c.self.invariant.lawful in
    let before = c.self.invariant.ahead_is in
    let e = c.in-Some.field-0.now in
    let found : entry_after bytes_cmp at ahead ≡ Some e = ap (λ (k : List ℕ). entry_after bytes_cmp k ahead) (sym (c.new.ensures ∙ c.as_slice.ensures.bytes)) ∙ sym c.in-Some.ensures in
    let path : c.as_slice-4.result.now ≡ e.0 = c.as_slice-4.ensures ∙ c.in_ok-next.ensures ∙ c.as_slice-2.ensures in
    ap (walk s) path ∙ next_walks s lawful at ahead before e found

pub invariant_of-self : goal.invariant_of-self
invariant_of-self g c =
    let s = c.self.inside.tree.now in
    let at : List ℕ = c.self.inside.at in
    let ahead = c.self.inside.ahead in
    let lawful = c.self.invariant.lawful in
    let before = c.self.invariant.ahead_is in
    let e = c.in-Some.field-0.now in
    let found : entry_after bytes_cmp at ahead ≡ Some e = ap (λ (k : List ℕ). entry_after bytes_cmp k ahead) (sym (c.new.ensures ∙ c.as_slice.ensures.bytes)) ∙ sym c.in-Some.ensures in
    let path : c.as_slice-4.result.now ≡ e.0 = c.as_slice-4.ensures ∙ c.in_ok-next.ensures ∙ c.as_slice-2.ensures in
    let grows : Grows s e.0 e.1 ahead c.add_entries.new.ahead = subst (λ (p : List ℕ). Grows s p e.1 ahead c.add_entries.new.ahead) path c.in_err-add_entries.ensures.grows in
    record { lawful = lawful; ahead_is = grown_ahead s lawful at ahead before e found c.add_entries.new.ahead grows; firsts_are = c.self.invariant.firsts_are }

pub invariant_of-self-in_err-learn : goal.invariant_of-self-in_err-learn
invariant_of-self-in_err-learn g c =
    let s = c.self.inside.tree.now in
    let at : List ℕ = c.self.inside.at in
    let ahead = c.self.inside.ahead in
    let lawful = c.self.invariant.lawful in
    let before = c.self.invariant.ahead_is in
    let e = c.in-Some.field-0.now in
    let found : entry_after bytes_cmp at ahead ≡ Some e = ap (λ (k : List ℕ). entry_after bytes_cmp k ahead) (sym (c.new.ensures ∙ c.as_slice.ensures.bytes)) ∙ sym c.in-Some.ensures in
    let path : c.as_slice-4.result.now ≡ e.0 = c.as_slice-4.ensures ∙ c.in_ok-next.ensures ∙ c.as_slice-2.ensures in
    let grows : Grows s e.0 e.1 ahead c.add_entries.new.ahead = subst (λ (p : List ℕ). Grows s p e.1 ahead c.add_entries.new.ahead) path c.in_ok-add_entries.ensures.grows in
    let learns : Learns s e.1 e.0 c.self.inside.firsts c.learn.new.firsts = subst (λ (p : List ℕ). Learns s e.1 p c.self.inside.firsts c.learn.new.firsts) (c.in_ok-next.ensures ∙ c.as_slice-2.ensures) c.in_err-learn.ensures.learns in
    record {
      lawful = lawful;
      ahead_is = grown_ahead s lawful at ahead before e found c.add_entries.new.ahead grows;
      firsts_are = learnt_firsts s lawful at ahead before e found c.self.inside.firsts c.learn.new.firsts c.self.invariant.firsts_are learns;
    }

pub invariant_of-self-in_err-remove : goal.invariant_of-self-in_err-remove
invariant_of-self-in_err-remove g c =
    let s = c.self.inside.tree.now in
    let at : List ℕ = c.self.inside.at in
    let ahead = c.self.inside.ahead in
    let lawful = c.self.invariant.lawful in
    let before = c.self.invariant.ahead_is in
    let e = c.in-Some.field-0.now in
    let found : entry_after bytes_cmp at ahead ≡ Some e = ap (λ (k : List ℕ). entry_after bytes_cmp k ahead) (sym (c.new.ensures ∙ c.as_slice.ensures.bytes)) ∙ sym c.in-Some.ensures in
    let path : c.as_slice-4.result.now ≡ e.0 = c.as_slice-4.ensures ∙ c.in_ok-next.ensures ∙ c.as_slice-2.ensures in
    let grows : Grows s e.0 e.1 ahead c.add_entries.new.ahead = subst (λ (p : List ℕ). Grows s p e.1 ahead c.add_entries.new.ahead) path c.in_ok-add_entries.ensures.grows in
    let learns : Learns s e.1 e.0 c.self.inside.firsts c.learn.new.firsts = subst (λ (p : List ℕ). Learns s e.1 p c.self.inside.firsts c.learn.new.firsts) (c.in_ok-next.ensures ∙ c.as_slice-2.ensures) c.in_ok-learn.ensures.learns in
    record {
      lawful = lawful;
      ahead_is = subst (λ (m : Map (List ℕ) ℕ). IsAhead s at m) (sym c.in_err-remove.ensures.err) (grown_ahead s lawful at ahead before e found c.add_entries.new.ahead grows);
      firsts_are = learnt_firsts s lawful at ahead before e found c.self.inside.firsts c.learn.new.firsts c.self.invariant.firsts_are learns;
    }

pub invariant_of-self-2 : goal.invariant_of-self-2
invariant_of-self-2 g c =
    let s = c.self.inside.tree.now in
    let at : List ℕ = c.self.inside.at in
    let ahead = c.self.inside.ahead in
    let lawful = c.self.invariant.lawful in
    let before = c.self.invariant.ahead_is in
    let e = c.in-Some.field-0.now in
    let found : entry_after bytes_cmp at ahead ≡ Some e = ap (λ (k : List ℕ). entry_after bytes_cmp k ahead) (sym (c.new.ensures ∙ c.as_slice.ensures.bytes)) ∙ sym c.in-Some.ensures in
    let path : c.as_slice-4.result.now ≡ e.0 = c.as_slice-4.ensures ∙ c.in_ok-next.ensures ∙ c.as_slice-2.ensures in
    let grows : Grows s e.0 e.1 ahead c.add_entries.new.ahead = subst (λ (p : List ℕ). Grows s p e.1 ahead c.add_entries.new.ahead) path c.in_ok-add_entries.ensures.grows in
    let learns : Learns s e.1 e.0 c.self.inside.firsts c.learn.new.firsts = subst (λ (p : List ℕ). Learns s e.1 p c.self.inside.firsts c.learn.new.firsts) (c.in_ok-next.ensures ∙ c.as_slice-2.ensures) c.in_ok-learn.ensures.learns in
    let entries : HasEntries s e.0 e.1 c.add_entries.new.ahead = subst (λ (p : List ℕ). HasEntries s p e.1 c.add_entries.new.ahead) path c.in_ok-add_entries.ensures.entries in
    let own : c.from-at.result ≡ e.0 = c.from-at.ensures ∙ c.in_ok-from_slice.ensures.items ∙ c.as_slice-3.ensures in
    let left : c.remove.new.self ≡ without bytes_cmp e.0 c.add_entries.new.ahead =
    c.in_ok-remove.ensures.ok ∙ ap (λ (p : List ℕ). without bytes_cmp p c.add_entries.new.ahead) (c.new-3.ensures ∙ c.as_slice-5.ensures.bytes ∙ own) in
    subst (λ (p : List ℕ). IsPassed s p c.remove.new.self c.learn.new.firsts) (sym own) (record {
      lawful = lawful;
      ahead_is = subst (λ (m : Map (List ℕ) ℕ). IsAhead s e.0 m) (sym left) (passed_ahead s lawful at ahead before e found c.add_entries.new.ahead grows entries);
      firsts_are = passed_firsts s lawful at ahead before e found c.self.inside.firsts c.learn.new.firsts c.self.invariant.firsts_are learns c.in_ok-learn.ensures.known;
    })

pub returns-clause-steps : goal.returns-clause-steps
returns-clause-steps g c =
    let s = c.self.inside.tree.now in
    let at : List ℕ = c.self.inside.at in
    let ahead = c.self.inside.ahead in
    let lawful = c.self.invariant.lawful in
    let before = c.self.invariant.ahead_is in
    let e = c.in-Some.field-0.now in
    let found : entry_after bytes_cmp at ahead ≡ Some e = ap (λ (k : List ℕ). entry_after bytes_cmp k ahead) (sym (c.new.ensures ∙ c.as_slice.ensures.bytes)) ∙ sym c.in-Some.ensures in
    let path : c.as_slice-4.result.now ≡ e.0 = c.as_slice-4.ensures ∙ c.in_ok-next.ensures ∙ c.as_slice-2.ensures in
    let own : c.from-at.result ≡ e.0 = c.from-at.ensures ∙ c.in_ok-from_slice.ensures.items ∙ c.as_slice-3.ensures in
    steps_view c.args.self.now s at e.0 c.from-at.result (Some e.1) c.self.view_is own (steps_to s at e (next_is s lawful at ahead before e found))
