-- A key spells one node over one list of children.
use Rattle.std.proofs.Common.{◌≡◌, ℕ, zero, suc, ◌+◌, ◌*◌, ℤ, pos, negsuc, Bool, true, false, Option, Some, None, List, [], ◌∷◌, ◌++◌, map, drop, get_or, refl, sym, ap, ◌∙◌}
use Rattle.std.proofs.lemmas.Nat.{div-add-mod'}
use Rattle.formula_trees.specs.declared.tree.Part.{Part}
use Rattle.formula_trees.specs.declared.tree.Reference.{Reference}
use Rattle.formula_trees.specs.declared.tree.Sign.{Sign}
use Rattle.formula_trees.specs.declared.tree.Op.{Op}
use Rattle.formula_trees.specs.declared.tree.Fun.{Fun}
use Rattle.shared_expressions.specs.declared.nodes.Node.{Node}
use Rattle.shared_expressions.specs.Keys.{sheet_number, part_kind, part_number, spelled, op_number, fun_number, node_key, key_of}

abbrev size : ℤ → ℕ
size (pos n) = n
size (negsuc n) = n

abbrev at : ℕ → List ℤ → ℤ
at k q = get_or q k (pos 0)

abbrev sheet_read : ℤ → Option ℕ
sheet_read (pos (suc s)) = Some s
sheet_read (pos zero) = None
sheet_read (negsuc s) = None

abbrev part_read : ℤ → ℤ → Part
part_read (pos zero) v = Part.At (size v)
part_read (pos (suc n)) v = Part.By v
part_read (negsuc n) v = Part.By v

abbrev reference_read : List ℤ → Reference
reference_read q = record { sheet = sheet_read (at 0 q); col = part_read (at 1 q) (at 2 q); row = part_read (at 3 q) (at 4 q) }

abbrev truth_read : ℤ → Bool
truth_read (pos (suc n)) = true
truth_read _ = false

abbrev sign_read : ℤ → Sign
sign_read z = get_or (Sign.Minus ∷ Sign.Plus ∷ []) (size z) Sign.Plus

abbrev op_read : ℤ → Op
op_read z = get_or (Op.Add ∷ Op.Sub ∷ Op.Mul ∷ Op.Div ∷ Op.Eq ∷ Op.Ne ∷ Op.Lt ∷ Op.Le ∷ Op.Gt ∷ Op.Ge ∷ Op.Join ∷ []) (size z) Op.Add

abbrev fun_read : ℤ → Fun
fun_read z = get_or (Fun.If ∷ Fun.And ∷ Fun.Or ∷ Fun.Not ∷ Fun.Choose ∷ Fun.IfError ∷ Fun.IsError ∷ Fun.Sum ∷ Fun.Min ∷ Fun.Max ∷ Fun.Count ∷ Fun.Abs ∷ Fun.Mod ∷ Fun.Quotient ∷ Fun.Index ∷ Fun.Match ∷ Fun.VLookup ∷ Fun.HLookup ∷ Fun.Left ∷ Fun.Right ∷ Fun.Mid ∷ Fun.Len ∷ []) (size z) Fun.If

-- the node that a key begins with, by its kind, and the rest
abbrev node_read : ℕ → List ℤ → Node × List ℤ
node_read zero q = (Node.Number (at 0 q), drop 1 q)
node_read (suc zero) q = (Node.Text (record { 0 = size (at 0 q) * 4294967296 + size (at 1 q) }), drop 2 q)
node_read (suc (suc zero)) q = (Node.Bool (truth_read (at 0 q)), drop 1 q)
node_read (suc (suc (suc zero))) q = (Node.Ref (reference_read q), drop 5 q)
node_read (suc (suc (suc (suc zero)))) q = (Node.Range (reference_read q) (reference_read (drop 5 q)), drop 10 q)
node_read (suc (suc (suc (suc (suc zero))))) q = (Node.RefError, q)
node_read (suc (suc (suc (suc (suc (suc zero)))))) q = (Node.Unary (sign_read (at 0 q)), drop 1 q)
node_read (suc (suc (suc (suc (suc (suc (suc zero))))))) q = (Node.Binary (op_read (at 0 q)), drop 1 q)
node_read (suc (suc (suc (suc (suc (suc (suc (suc n)))))))) q = (Node.Call (fun_read (at 0 q)), drop 1 q)

abbrev key_read : List ℤ → Node × List ℤ
key_read q = node_read (size (at 0 q)) (drop 1 q)

sheet_back : (s : Option ℕ) → sheet_read (sheet_number s) ≡ s
sheet_back (Some s) = refl
sheet_back None = refl

part_back : (p : Part) → part_read (part_kind p) (part_number p) ≡ p
part_back (Part.At n) = refl
part_back (Part.By d) = refl

reference_back : (r : Reference) (q : List ℤ) → reference_read (spelled r ++ q) ≡ r
reference_back r q = λ i. record { sheet = sheet_back r.sheet i; col = part_back r.col i; row = part_back r.row i }

op_back : (o : Op) → op_read (op_number o) ≡ o
op_back Op.Add = refl
op_back Op.Sub = refl
op_back Op.Mul = refl
op_back Op.Div = refl
op_back Op.Eq = refl
op_back Op.Ne = refl
op_back Op.Lt = refl
op_back Op.Le = refl
op_back Op.Gt = refl
op_back Op.Ge = refl
op_back Op.Join = refl

fun_back : (f : Fun) → fun_read (fun_number f) ≡ f
fun_back Fun.If = refl
fun_back Fun.And = refl
fun_back Fun.Or = refl
fun_back Fun.Not = refl
fun_back Fun.Choose = refl
fun_back Fun.IfError = refl
fun_back Fun.IsError = refl
fun_back Fun.Sum = refl
fun_back Fun.Min = refl
fun_back Fun.Max = refl
fun_back Fun.Count = refl
fun_back Fun.Abs = refl
fun_back Fun.Mod = refl
fun_back Fun.Quotient = refl
fun_back Fun.Index = refl
fun_back Fun.Match = refl
fun_back Fun.VLookup = refl
fun_back Fun.HLookup = refl
fun_back Fun.Left = refl
fun_back Fun.Right = refl
fun_back Fun.Mid = refl
fun_back Fun.Len = refl

key_back : (n : Node) (q : List ℤ) → key_read (node_key n ++ q) ≡ (n, q)
key_back (Node.Number n) q = refl
key_back (Node.Text t) q = λ i. (Node.Text (record { 0 = div-add-mod' t.0 4294967296 i }), q)
key_back (Node.Bool true) q = refl
key_back (Node.Bool false) q = refl
key_back (Node.Ref r) q = λ i. (Node.Ref (reference_back r q i), q)
key_back (Node.Range r s) q = λ i. (Node.Range (reference_back r (spelled s ++ q) i) (reference_back s q i), q)
key_back Node.RefError q = refl
key_back (Node.Unary Sign.Minus) q = refl
key_back (Node.Unary Sign.Plus) q = refl
key_back (Node.Binary o) q = λ i. (Node.Binary (op_back o i), q)
key_back (Node.Call f) q = λ i. (Node.Call (fun_back f i), q)

numbers_back : (xs : List ℕ) → map size (map pos xs) ≡ xs
numbers_back [] = refl
numbers_back (x ∷ xs) = ap (λ z. x ∷ z) (numbers_back xs)

pub key_apart : (m n : Node) (xs ys : List ℕ) → key_of m xs ≡ key_of n ys → (m ≡ n) × (xs ≡ ys)
key_apart m n xs ys h =
    let both : (m, map pos xs) ≡ (n, map pos ys) = sym (key_back m (map pos xs)) ∙ ap key_read h ∙ key_back n (map pos ys) in
    (ap (λ (z : Node × List ℤ). z.0) both, sym (numbers_back xs) ∙ ap (λ (z : Node × List ℤ). map size z.1) both ∙ numbers_back ys)
