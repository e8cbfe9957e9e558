-- Which ring is chosen for a modulus.
use Rattle.std.specs.Prelude.{◌≡◌, ℕ, ◌%◌}
use Rattle.odd_residues.specs.declared.residue_ring.ResidueRing.{ResidueRing}
use Rattle.odd_residues.specs.declared.residue_ring.ResidueRing.TheVariants.{Odd, Even}

-- the ring has the modulus m, and its form is that of odd or of even ones
abbrev pub IsRingOf : ℕ → ResidueRing → Type 0
IsRingOf m (Odd ring) = (ring.modulus ≡ m) × (m % 2 ≡ 1)
IsRingOf m (Even ring) = (ring.modulus ≡ m) × (m % 2 ≡ 0)
