use Rattle.store_model.proofs.WordMeanings.{list_is_done, show_is_done, cat_is_done, show_misses, cat_misses, scrub_is_done, scrub_is_cut, scrub_is_silent, scrub_finds}
use Rattle.store_model.proofs.meanings.printing_words_write_what_is_stored.Goals as goal

pub returns : goal.returns
returns c = record {
  list = list_is_done;
  show = show_is_done;
  cat = cat_is_done;
  no_name = show_misses;
  no_path = cat_misses;
  scrub = scrub_is_done;
  cut = scrub_is_cut;
  silent = scrub_is_silent;
  finds = scrub_finds;
}
