-- The order of two values, turned round.
use Rattle.std.proofs.Common.{◌≡◌, ℕ, List, unwrap_or, Bool, true, false, pos, Option, Some, None, [], refl, ap, ◌∙◌, option_map}
use Rattle.std.specs.Ordering.{ordering_reverse, is_lt, is_gt, is_le, is_ge}
use Rattle.std.specs.declared.cmp.Ordering.{Ordering}
use Rattle.std.specs.declared.cmp.Ordering.TheVariants.{Less, Equal, Greater}
use Rattle.std.proofs.lemmas.Cmp.{int_cmp_total, nat_list_cmp_total}
use Rattle.cell_values.specs.declared.values.Value.{Value}
use Rattle.cell_values.specs.Texts.{Texts}
use Rattle.cell_values.specs.Values.{text_of}
use Rattle.builtin_functions.specs.Tables.{Class, class, class_order, order, bool_order, same, equals, ordered}
use Rattle.builtin_functions.specs.Laws.{OrderTurns, TextsCompareByBytes}

bool_turns : (x y : Bool) → bool_order x y ≡ ordering_reverse (bool_order y x)
bool_turns true true = refl
bool_turns true false = refl
bool_turns false true = refl
bool_turns false false = refl

pub classes_turn : (a b : Class) → class_order a b ≡ option_map ordering_reverse (class_order b a)
classes_turn (Class.Number x) (Class.Number y) = ap Some (int_cmp_total.antisymm x y)
classes_turn (Class.Number x) (Class.Text t) = refl
classes_turn (Class.Number x) (Class.Truth q) = refl
classes_turn (Class.Number x) Class.Blank = ap Some (int_cmp_total.antisymm x (pos 0))
classes_turn (Class.Number x) (Class.Failed e) = refl
classes_turn (Class.Text s) (Class.Number y) = refl
classes_turn (Class.Text s) (Class.Text t) = ap Some (nat_list_cmp_total.antisymm s t)
classes_turn (Class.Text s) (Class.Truth q) = refl
classes_turn (Class.Text s) Class.Blank = ap Some (nat_list_cmp_total.antisymm s [])
classes_turn (Class.Text s) (Class.Failed e) = refl
classes_turn (Class.Truth p) (Class.Number y) = refl
classes_turn (Class.Truth p) (Class.Text t) = refl
classes_turn (Class.Truth p) (Class.Truth q) = ap Some (bool_turns p q)
classes_turn (Class.Truth p) Class.Blank = ap Some (bool_turns p false)
classes_turn (Class.Truth p) (Class.Failed e) = refl
classes_turn Class.Blank (Class.Number y) = ap Some (int_cmp_total.antisymm (pos 0) y)
classes_turn Class.Blank (Class.Text t) = ap Some (nat_list_cmp_total.antisymm [] t)
classes_turn Class.Blank (Class.Truth q) = ap Some (bool_turns false q)
classes_turn Class.Blank Class.Blank = refl
classes_turn Class.Blank (Class.Failed e) = refl
classes_turn (Class.Failed d) (Class.Number y) = refl
classes_turn (Class.Failed d) (Class.Text t) = refl
classes_turn (Class.Failed d) (Class.Truth q) = refl
classes_turn (Class.Failed d) Class.Blank = refl
classes_turn (Class.Failed d) (Class.Failed e) = refl

-- what is a text is compared by its bytes
text_class : (ts : Texts) (v : Value) (bytes : List ℕ) → text_of ts v ≡ Some bytes → class ts v ≡ Class.Text bytes
text_class ts (Value.Number n) bytes e = absurd (cc)
text_class ts (Value.Text t) bytes e = ap (λ o. Class.Text (unwrap_or o [])) e
text_class ts (Value.Short t) bytes e = ap (λ o. Class.Text (unwrap_or o [])) e
text_class ts (Value.Bool b) bytes e = absurd (cc)
text_class ts Value.Blank bytes e = absurd (cc)
text_class ts (Value.Error c) bytes e = absurd (cc)

pub texts_by_bytes : TextsCompareByBytes
unfolding order
texts_by_bytes ts a b xs ys e f = λ i. class_order (text_class ts a xs e i) (text_class ts b ys f i)

pub order_turns : (ts : Texts) (a b : Value) → order ts a b ≡ option_map ordering_reverse (order ts b a)
unfolding order
order_turns ts a b = classes_turn (class ts a) (class ts b)

equals_turned : (o : Option Ordering) → equals (option_map ordering_reverse o) ≡ equals o
equals_turned (Some Less) = refl
equals_turned (Some Equal) = refl
equals_turned (Some Greater) = refl
equals_turned None = refl

less_turned : (o : Option Ordering) → ordered is_lt (option_map ordering_reverse o) ≡ ordered is_gt o
less_turned (Some Less) = refl
less_turned (Some Equal) = refl
less_turned (Some Greater) = refl
less_turned None = refl

less_or_equal_turned : (o : Option Ordering) → ordered is_le (option_map ordering_reverse o) ≡ ordered is_ge o
less_or_equal_turned (Some Less) = refl
less_or_equal_turned (Some Equal) = refl
less_or_equal_turned (Some Greater) = refl
less_or_equal_turned None = refl

pub same_is_symmetric : (ts : Texts) (a b : Value) → same ts a b ≡ same ts b a
same_is_symmetric ts a b = ap equals (order_turns ts a b) ∙ equals_turned (order ts b a)

pub comparisons_turn : (ts : Texts) (a b : Value) → OrderTurns ts a b
comparisons_turn ts a b = record {
  less = ap (ordered is_lt) (order_turns ts a b) ∙ less_turned (order ts b a);
  less_or_equal = ap (ordered is_le) (order_turns ts a b) ∙ less_or_equal_turned (order ts b a);
}
