-- The arguments of each function.
use Rattle.std.specs.Prelude.{ℕ, zero, suc, Bool, true, nat_le, nat_lt, Option, Some, None}
use Rattle.formula_trees.specs.declared.tree.Fun.{Fun}
use Rattle.formula_trees.specs.declared.functions.Kind.{Kind}
use Rattle.formula_trees.specs.declared.functions.Kind.TheVariants.{Plain, Place, Many, Exact}
use Rattle.formula_trees.specs.declared.functions.Signature.{Signature}

-- the kinds of the first, the second, the third and all other arguments, and the least and the greatest number of them
abbrev pub takes : Kind → Kind → Kind → Kind → ℕ → Option ℕ → Signature
takes a b c d l m = record { first = a; second = b; third = c; others = d; least = l; most = m }

-- the table of the functions
abbrev pub signature_of : Fun → Signature
signature_of Fun.If = takes Plain Plain Plain Plain 2 (Some 3)
signature_of Fun.And = takes Plain Plain Plain Plain 1 None
signature_of Fun.Or = takes Plain Plain Plain Plain 1 None
signature_of Fun.Not = takes Plain Plain Plain Plain 1 (Some 1)
signature_of Fun.Choose = takes Plain Plain Plain Plain 2 None
signature_of Fun.IfError = takes Plain Plain Plain Plain 2 (Some 2)
signature_of Fun.IsError = takes Plain Plain Plain Plain 1 (Some 1)
signature_of Fun.Sum = takes Many Many Many Many 1 None
signature_of Fun.Min = takes Many Many Many Many 1 None
signature_of Fun.Max = takes Many Many Many Many 1 None
signature_of Fun.Count = takes Many Many Many Many 1 None
signature_of Fun.Abs = takes Plain Plain Plain Plain 1 (Some 1)
signature_of Fun.Mod = takes Plain Plain Plain Plain 2 (Some 2)
signature_of Fun.Quotient = takes Plain Plain Plain Plain 2 (Some 2)
signature_of Fun.Index = takes Place Plain Plain Plain 3 (Some 3)
signature_of Fun.Match = takes Plain Place Exact Plain 2 (Some 3)
signature_of Fun.VLookup = takes Plain Place Plain Exact 3 (Some 4)
signature_of Fun.HLookup = takes Plain Place Plain Exact 3 (Some 4)
signature_of Fun.Left = takes Plain Plain Plain Plain 1 (Some 2)
signature_of Fun.Right = takes Plain Plain Plain Plain 1 (Some 2)
signature_of Fun.Mid = takes Plain Plain Plain Plain 3 (Some 3)
signature_of Fun.Len = takes Plain Plain Plain Plain 1 (Some 1)

-- a first argument of one kind, then a second of another, then a third, then all others
abbrev pub kinds : Kind → Kind → Kind → Kind → ℕ → Kind
kinds a b c d zero = a
kinds a b c d (suc zero) = b
kinds a b c d (suc (suc zero)) = c
kinds a b c d (suc (suc (suc n))) = d

-- the kind of the argument with a number, from 0
abbrev pub kind_of : Fun → ℕ → Kind
kind_of f n = kinds (signature_of f).first (signature_of f).second (signature_of f).third (signature_of f).others n

-- so many arguments are enough
abbrev pub enough : Fun → ℕ → Bool
enough f n = nat_le (signature_of f).least n

abbrev pub is_above : Option ℕ → ℕ → Bool
is_above (Some m) n = nat_lt n m
is_above None n = true

-- behind so many arguments one more may stand
abbrev pub takes_more : Fun → ℕ → Bool
takes_more f n = is_above (signature_of f).most n
