-- The names of a weight in their order, and the listing, which holds those of a depth at most.
use Rattle.std.specs.Prelude.{ℕ, ◌-◌, nat_le, List, ◌++◌, map, filter}
use Rattle.std.specs.List.{flat_map, range_with_len}
use Rattle.zeta_model.specs.declared.Letter.{Letter}
use Rattle.zeta_model.specs.WordLists.{admissible_words}
use Rattle.relation_list.specs.declared.names.Direct.{Direct}
use Rattle.relation_list.specs.declared.names.Direct.TheVariants.{Fin, Reg, Dual}
use Rattle.relation_list.specs.declared.names.RelName.{RelName}
use Rattle.relation_list.specs.declared.names.RelName.TheVariants.{Plain, Prod}
use Rattle.relation_list.specs.Names.{in_order, below_dual, depth_of_name}

-- the Fin of u with words of n letters, by v
abbrev pub fins_by : ℕ → List Letter → List Direct
fins_by n u = map (λ v. Fin u v) (filter (in_order u) (admissible_words n))

-- the Fin of weight w whose u has k letters, by (u, v)
abbrev pub fins_from : ℕ → ℕ → List Direct
fins_from w k = flat_map (fins_by (w - k)) (admissible_words k)

-- all Fin of weight w, by (weight of u, u, v)
unfoldable pub fins : ℕ → List Direct
fins w = flat_map (fins_from w) (range_with_len 1 (w - 1))

-- the Reg of weight w with m letters y, by v
abbrev pub regs_from : ℕ → ℕ → List Direct
regs_from w m = map (λ v. Reg m v) (admissible_words (w - m))

-- all Reg of weight w, by (m, v)
unfoldable pub regs : ℕ → List Direct
regs w = flat_map (regs_from w) (range_with_len 1 (w - 1))

-- all Dual of weight w, by u
unfoldable pub duals : ℕ → List Direct
duals w = map (λ u. Dual u) (filter below_dual (admissible_words w))

abbrev pub directs : ℕ → List Direct
directs w = fins w ++ (regs w ++ duals w)

-- the Prod of r with words of n letters, by u
abbrev pub prods_by : ℕ → Direct → List RelName
prods_by n r = map (λ u. Prod r u) (admissible_words n)

-- the Prod of weight w whose r has the weight k, by (place of r among the direct names of weight k, u)
abbrev pub prods_from : ℕ → ℕ → List RelName
prods_from w k = flat_map (prods_by (w - k)) (directs k)

-- all Prod of weight w, by (weight k of r, place of r, u), for k = 3 .. w - 2
unfoldable pub prods : ℕ → List RelName
prods w = flat_map (prods_from w) (range_with_len 3 (w - 4))

abbrev pub names : ℕ → List RelName
names w = map (λ r. Plain r) (directs w) ++ prods w

-- the names of weight w and depth at most d
unfoldable pub listing_of : ℕ → ℕ → List RelName
listing_of w d = filter (λ n. nat_le (depth_of_name n) d) (names w)
