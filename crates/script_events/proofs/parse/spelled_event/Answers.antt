use Rattle.script_events.specs.Words.{words_in}
use Rattle.script_events.proofs.Sevens.{seven_words, seven_bytes}
use Rattle.script_events.proofs.parse.spelled_event.Goals as goal

pub returns-clause-gives : goal.returns-clause-gives
returns-clause-gives c = rw (c.as_slice.ensures.value, c.words_of-words.ensures, seven_words (words_in c.args.line.now))
    at c.event_or_none.ensures.gives

pub returns-clause-exact : goal.returns-clause-exact
returns-clause-exact c =
    rw (
      c.as_slice.ensures.value,
      c.words_of-words.ensures,
      seven_words (words_in c.args.line.now),
      seven_bytes
          (words_in c.args.line.now),
    ) at c.event_or_none.ensures.exact
