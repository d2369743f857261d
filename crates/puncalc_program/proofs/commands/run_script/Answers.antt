use Rattle.std.proofs.Common.{Ok, sym, subst}
use Rattle.formula_grammar.specs.Reading.{IsReading}
use Rattle.puncalc_program.specs.Desks.{Runs}
use Rattle.puncalc_program.specs.Script.{lines_of, opened, script_from}
use Rattle.puncalc_program.specs.Writing.{sunk}
use Rattle.puncalc_program.proofs.Ends.{script_answers}
use Rattle.puncalc_program.proofs.commands.run_script.Goals as goal

pub returns-clause-answers : goal.returns-clause-answers
returns-clause-answers g c = λ read right.
    let before = sunk g.K.Sink.written g.K.Sink.faults g.K.Sink.calls c.args.out.now in
    let now = sunk g.K.Sink.written g.K.Sink.faults g.K.Sink.calls c.run_script.new.out in
    let st = c.run_script.new.self.standing in
    let lines = lines_of c.args.script.now in
    script_answers (script_from read c.args.book.names c.args.workers.now.count 1 (opened c.args.book.book) lines) st before now c.into_kept.result c.in_ok-status.status
    (subst (λ from. Runs (script_from read c.args.book.names c.args.workers.now.count 1 from lines) st before now (Ok c.in_ok-status.status)) c.new-desk.ensures.standing
    (subst (λ names. Runs (script_from read names c.args.workers.now.count 1 c.new-desk.result.standing lines) st before now (Ok c.in_ok-status.status)) c.new-desk.ensures.names
    (c.in_ok-status.ensures.runs read (subst (λ names. IsReading names read) (sym c.new-desk.ensures.names) right))))
    c.into_kept.ensures
