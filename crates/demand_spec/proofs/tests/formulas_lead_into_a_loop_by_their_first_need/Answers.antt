use Rattle.formula_trees.specs.Expr.{expr_of}
use Rattle.demand_spec.proofs.Small.{zero_first_sound, zero_last_sound, unless_error_sound}
use Rattle.demand_spec.proofs.tests.formulas_lead_into_a_loop_by_their_first_need.Goals as goal

pub beside_a_loop-requires-clause-sound : goal.beside_a_loop-requires-clause-sound
beside_a_loop-requires-clause-sound g c = zero_first_sound (expr_of c.operation-zero_first.result) (expr_of c.operation.result) c.reference.result c.operation-zero_first.ensures c.operation.ensures c.reference.ensures

pub beside_a_loop-requires-2-clause-sound : goal.beside_a_loop-requires-2-clause-sound
beside_a_loop-requires-2-clause-sound g c = zero_last_sound (expr_of c.operation-loop_first.result) (expr_of c.operation-2.result) c.reference-2.result c.operation-loop_first.ensures c.operation-2.ensures c.reference-2.ensures

pub beside_a_loop-requires-3-clause-sound : goal.beside_a_loop-requires-3-clause-sound
beside_a_loop-requires-3-clause-sound g c = unless_error_sound (expr_of c.if_error-unless.result) c.reference-3.result c.if_error-unless.ensures c.reference-3.ensures
