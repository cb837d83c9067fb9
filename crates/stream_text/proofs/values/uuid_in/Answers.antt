use Rattle.std.proofs.Common.{[], ◌∷◌, sym, ap, ◌∙◌}
use Rattle.stream_text.proofs.Identifiers.{bytes_in, uuid_back}
use Rattle.stream_text.proofs.values.uuid_in.Goals as goal

pub returns : goal.returns
returns c = record {
  meant = λ bytes len are says.
      (λ i. c.pair_at.ensures.pair i ∷ c.pair_at-2.ensures.pair i ∷ c.pair_at-3.ensures.pair i ∷ c.pair_at-4.ensures.pair i ∷ c.pair_at-5.ensures.pair i ∷ c.pair_at-6.ensures.pair i ∷ c.pair_at-7.ensures.pair i ∷ c.pair_at-8.ensures.pair i ∷ c.pair_at-9.ensures.pair i ∷ c.pair_at-10.ensures.pair i ∷ c.pair_at-11.ensures.pair i ∷ c.pair_at-12.ensures.pair i ∷ c.pair_at-13.ensures.pair i ∷ c.pair_at-14.ensures.pair i ∷ c.pair_at-15.ensures.pair i ∷ c.pair_at-16.ensures.pair i ∷ [])
      ∙ ap bytes_in (sym says) ∙ uuid_back bytes len are;
}
