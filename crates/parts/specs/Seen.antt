-- What is written and answered of components: the entries of the definition, and which of their parts differ.
use Rattle.std.specs.Prelude.{ℕ, ◌+◌, List, ◌≡◌}
use Rattle.std.proofs.Math.Option.{Option}
use Rattle.meaning.specs.Described.{DescribedComponent}
use Rattle.put.specs.Wrote.{Wrote}
use Rattle.changes.specs.Changes.{Entry, Found, entry, flat, across, bit, absent, found, lone, shared, part, of_part, if_absent, other_dtype, other_type, other_bytes}
use Rattle.parts.specs.declared.Seen.{Seen}
use Rattle.parts.specs.declared.Lone.{Lone}

module _ (i j : ℕ) (ds : List DescribedComponent) where
  -- the 4s and 5s, from the component k on
  abbrev pub firsts_from : ℕ → List DescribedComponent → List Entry
  firsts_from k cs = across (λ x c. of_part i j (k + x) c (part c.name ds)) cs

  -- the 6s, from the component l on; ds is the first's
  abbrev pub seconds_from : ℕ → List DescribedComponent → List Entry
  seconds_from l cs = across (λ x d. if_absent (entry 6 i j 0 (l + x) 0 0 0) (part d.name ds)) cs

-- of a component c, and what the second has of its name
pub record PartSeen (c : DescribedComponent) (o : Option (Found DescribedComponent)) (i j k at : ℕ) (xs ys : List ℕ) (r : Seen) : Type 0 where
  pub wrote : Wrote (flat (of_part i j k c o)) at xs ys r.at
  pub names : r.names ≡ bit 4 (absent o)
  pub dtypes : r.dtypes ≡ bit 8 (found (other_dtype c) o)
  pub kinds : r.kinds ≡ bit 16 (found (other_type c) o)
  pub bytes : r.bytes ≡ bit 32 (found (other_bytes c) o)

pub record PartsSeen (cs ds : List DescribedComponent) (i j at : ℕ) (xs ys : List ℕ) (r : Seen) : Type 0 where
  pub wrote : Wrote (flat (firsts_from i j ds 0 cs)) at xs ys r.at
  pub names : r.names ≡ bit 4 (lone cs ds)
  pub dtypes : r.dtypes ≡ bit 8 (shared other_dtype cs ds)
  pub kinds : r.kinds ≡ bit 16 (shared other_type cs ds)
  pub bytes : r.bytes ≡ bit 32 (shared other_bytes cs ds)

pub record LoneSeen (d : DescribedComponent) (cs : List DescribedComponent) (i j l at : ℕ) (xs ys : List ℕ) (r : Lone) : Type 0 where
  pub wrote : Wrote (flat (if_absent (entry 6 i j 0 l 0 0 0) (part d.name cs))) at xs ys r.at
  pub names : r.names ≡ bit 4 (absent (part d.name cs))

pub record LonesSeen (ds cs : List DescribedComponent) (i j at : ℕ) (xs ys : List ℕ) (r : Lone) : Type 0 where
  pub wrote : Wrote (flat (seconds_from i j cs 0 ds)) at xs ys r.at
  pub names : r.names ≡ bit 4 (lone ds cs)
