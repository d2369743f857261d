use Rattle.std.proofs.Common.{◌≡◌, false, length, ltb, sym, ◌∙◌, arith}
use Rattle.std.proofs.lemmas.Bool.{le-ltb}
use Rattle.cell_words.specs.Records.{tag_words}
use Rattle.speculative_eval.proofs.Becoming.{tag_known, value_learns, value_pushes, words_room}
use Rattle.speculative_eval.proofs.machine.Machine.note_value.Goals as goal

pub push-requires : goal.push-requires
push-requires c = words_room c.args.self.now c.in-ReadingValue.cell c.in-ReadingValue.rec c.in-ReadingValue.tag c.in-ReadingValue.is c.requires.working

pub tag_words-requires : goal.tag_words-requires
tag_words-requires c = tag_known c.args.self.now c.in-ReadingValue.cell c.in-ReadingValue.rec c.in-ReadingValue.tag c.in-ReadingValue.is c.requires.working

pub learn-requires : goal.learn-requires
learn-requires c =
    let enough : ltb (length c.push.new.self) (tag_words c.in-ReadingValue.tag) ≡ false = le-ltb (length c.push.new.self) (tag_words c.in-ReadingValue.tag) (omega arith) in
    value_learns c.args.self.now c.in-ReadingValue.cell c.in-ReadingValue.rec c.in-ReadingValue.tag c.args.word c.push.new.self c.in-Some.shown c.in-ReadingValue.is c.push.ensures enough (sym c.shown.ensures ∙ c.in-Some.is) c.requires

pub push-requires-in-None : goal.push-requires-in-None
push-requires-in-None c =
    let enough : ltb (length c.push.new.self) (tag_words c.in-ReadingValue.tag) ≡ false = le-ltb (length c.push.new.self) (tag_words c.in-ReadingValue.tag) (omega arith) in
    value_pushes c.args.self.now c.in-ReadingValue.cell c.in-ReadingValue.rec c.in-ReadingValue.tag c.args.word c.push.new.self c.in-ReadingValue.is c.push.ensures enough (sym c.shown.ensures ∙ c.in-None.is) c.requires
