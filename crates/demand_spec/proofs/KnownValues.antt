-- Known values in an ordered map.
use Rattle.cell_values.proofs.Order.{same_cmp, lookup_is}
use Rattle.std.proofs.Common.{◌≡◌, cond, List, is_eq, Some, sym, ◌∙◌}
use Rattle.std.specs.Map.{lookup}
use Rattle.cell_values.specs.contracts.address.AddrOrd.TheImpl as addr_ord
use Rattle.cell_values.specs.declared.address.Addr.{Addr}
use Rattle.cell_values.specs.declared.values.Value.{Value}
use Rattle.cell_values.specs.Order.{entry_at}
use Rattle.demand_spec.specs.Rounds.{put}

-- a value on for a cell
pub put_is : (m n : List (Addr × Value)) (at : Addr) (v : Value) → ((q : Addr) → lookup (λ k. is_eq ((addr_ord.ghosts).cmp q k)) n ≡ cond (is_eq ((addr_ord.ghosts).cmp at q)) (Some v) (lookup (λ k. is_eq ((addr_ord.ghosts).cmp q k)) m)) → entry_at n ≡ put at v (entry_at m)
put_is m n at v h = λ i q. (sym (lookup_is n q) ∙ h q ∙ (λ j. cond (same_cmp at q j) (Some v) (lookup_is m q j))) i
