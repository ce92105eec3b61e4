use Rattle.cg_thread_rows.proofs.FourWords.{is_store}
use Rattle.cg_thread_rows.proofs.stores.a_store_of_four_words_reads_as_zero.Goals as goal

pub of_words-requires : goal.of_words-requires
of_words-requires g c = is_store _ c.whole_key.result (c.word-word.ensures.nonzero) c.whole_key.ensures.parts c.word-word.result
    c.in_ok-keys.keys.items c.in_ok-values.values.items c.word-word.ensures.value c.in_ok-keys.ensures c.in_ok-values.ensures
