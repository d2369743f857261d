use Rattle.std.proofs.Common.{Some, None, sym, ap, ◌∙◌}
use Rattle.demand_spec.specs.Book.{period}
use Rattle.demand_spec.specs.Stage.{book_of, known_of}
use Rattle.demand_spec.proofs.Listed.{shown_value, shown_mark}
use Rattle.demand_spec.proofs.shown_cells.shown_of.Goals as goal

pub returns-in-Some : goal.returns-in-Some
returns-in-Some c = sym (shown_value (book_of c.args.stage.now) (known_of c.args.stage.now) c.args.at c.in-Some.v c.requires.formula c.requires.finished (sym c.in-Some.ensures))

pub returns-in-Some-steps_back : goal.returns-in-Some-steps_back
returns-in-Some-steps_back c = sym (shown_mark (book_of c.args.stage.now) (known_of c.args.stage.now) c.args.at (Some c.in-Some-steps_back.length) c.requires.formula c.requires.finished (sym c.in-None.ensures) (ap (λ n. period (book_of c.args.stage.now) n c.args.at) (sym c.requires.cells) ∙ sym c.in-Some-steps_back.ensures))

pub returns-in-None-steps_back : goal.returns-in-None-steps_back
returns-in-None-steps_back c = sym (shown_mark (book_of c.args.stage.now) (known_of c.args.stage.now) c.args.at None c.requires.formula c.requires.finished (sym c.in-None.ensures) (ap (λ n. period (book_of c.args.stage.now) n c.args.at) (sym c.requires.cells) ∙ sym c.in-None-steps_back.ensures))
