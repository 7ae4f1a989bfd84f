use Rattle.std.proofs.Common.{◌∙◌, ap}
use Rattle.todo_text.specs.Words.{word, up_to_blank}
use Rattle.todo_text.proofs.WordLemmas.{word_is}
use Rattle.todo_text.proofs.words.first_word.Goals as goal

pub returns-clause-word : goal.returns-clause-word
unfolding word
returns-clause-word c =
    word_is c.from_word-text.result.now c.from_blank-behind.result.now c.from_blank-behind.ensures.same ∙ ap up_to_blank c.from_word-text.ensures
