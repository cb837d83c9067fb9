-- What it means that bytes stand on standard output.
use Rattle.std.specs.Prelude.{◌<◌, ℕ, List, ◌++◌, length, drop}
use Rattle.std.proofs.Common.{sym, ap, ◌∙◌, arith, length-drop}
use Rattle.std.proofs.lemmas.List.{take-append-drop, length-take}
use Rattle.send_model.specs.Reading.{Verdict}
use Rattle.send_model.specs.Store.{Store}
use Rattle.send_model.specs.Headline.{IsProperFrontOf}
use Rattle.send_model.specs.Sources.{Sources}
use Rattle.send_model.specs.Meanings.{FrontHasARest, ProperFrontLacksSome, StoppedIsNoStream, StoppedIsNotComposed, DoneIsWhole, RefusedIsTold, EndIsMissing}

pub front_has_a_rest : FrontHasARest
front_has_a_rest all written h = (drop h.count all, sym (take-append-drop h.count all) ∙ ap (λ (l : List ℕ). l ++ drop h.count all) (sym h.written_is))

-- a proper front part is shorter
shorter : (all written : List ℕ) → IsProperFrontOf all written → length written < length all
shorter all written h = omega (arith, h.within, ap length h.written_is ∙ length-take h.count all)

pub proper_front_lacks_some : ProperFrontLacksSome
proper_front_lacks_some all written h = (
  (
    drop h.count all,
    sym (take-append-drop h.count all) ∙ ap (λ (l : List ℕ). l ++ drop h.count all) (sym h.written_is),
    λ none. absurd (omega (arith, h.within, ap length none, length-drop h.count all)),
  ),
  λ same. absurd (omega (arith, shorter all written h, ap length same)),
)

pub stopped_is_no_stream : StoppedIsNoStream
stopped_is_no_stream base reading written h = (h.unfinished, front_has_a_rest _ written h.front)

pub stopped_is_not_composed : StoppedIsNotComposed
stopped_is_not_composed base other reading stopped written h s = s.unfinished h.whole

pub done_is_whole : (base : Store ℕ) (read : Sources) (written : List ℕ) → DoneIsWhole base read written
done_is_whole base read written = record {
  composed = λ store at h. h;
  audited = λ guards store at h. h;
  dumped = λ at h. h;
  exported = λ store at h. h;
  chain = λ count seed h. h;
  trial = λ count seed h. h;
}

pub refused_is_told : (base : Store ℕ) (read : Sources) (verdict : Verdict) (written : List ℕ) → RefusedIsTold base read verdict written
refused_is_told base read verdict written = record {
  composed = λ store at h. h.unfinished;
  audited = λ guards store at h. h;
  dumped = λ at h. h;
  exported = λ store at h. h;
  chain = λ count seed h. h;
  trial = λ count seed h. h;
}

pub end_is_missing : (base : Store ℕ) (read : Sources) (written : List ℕ) → EndIsMissing base read written
end_is_missing base read written = record {
  composing = λ store at h. h.unfinished;
  cut = λ store at h. h.unfinished;
  auditing = λ guards store at h. h;
  audit_cut = λ guards store at h. (proper_front_lacks_some _ written h.1).1;
}
