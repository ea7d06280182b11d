-- The sums of what differs say what differs, and nothing else fits.
use Prim.Native.Nat.{ℕ, ◌+◌}
use mathlib.Core.List.{List, map}
use mathlib.Core.Bool.{Bool, true, false, not, ◌||◌}
use mathlib.Core.Option.{Option, some}
use mathlib.Core.Path.{◌≡◌, refl, sym, ap, ap₂, ◌∙◌}
use lib.ListN.{get_elem?}
use lib.Dec.{eqb}
use Rattle.meaning.specs.Text.{same, distinct}
use Rattle.meaning.specs.Described.{DescribedComponent, DescribedObject}
use Rattle.meaning.proofs.Tests.{not-both}
use Rattle.changes.specs.Changes.{Found, absent, same_option, bit, other_dtype, other_type, other_bytes, part_what, part, lone, found, shared, object_what}
use Rattle.changes.specs.Differs.{part_name, Lone, Shared, OtherDtype, OtherType, OtherBytes, PartWhat, ObjectWhat}
use Rattle.changes.proofs.Lists.{any-true, any_at, Seeking, somewhere, nowhere, seeking, seek-at, seek-lacks}
use Rattle.changes.proofs.Flags.{Says, flag-of, flag_same, says-not, says-or, says-eqb, says_same, says-option}

says-dtype : (c d : DescribedComponent) → Says (other_dtype c d) (OtherDtype c d)
says-dtype c d = says-not (eqb c.dtype d.dtype) (says-eqb c.dtype d.dtype)

says-type : (c d : DescribedComponent) → Says (other_type c d) (OtherType c d)
says-type c d = says-not (same_option same c.type d.type) (says-option same says_same c.type d.type)

says-bytes : (c d : DescribedComponent) → Says (other_bytes c d) (OtherBytes c d)
says-bytes c d = says-not (same c.blob d.blob) (says_same c.blob d.blob)

pub part-what : (c d : DescribedComponent) → PartWhat c d (part_what c d)
part-what c d = record {
  dtype = bit 8 (other_dtype c d);
  type = bit 16 (other_type c d);
  bytes = bit 32 (other_bytes c d);
  of_dtype = flag-of 8 (other_dtype c d) (says-dtype c d);
  of_type = flag-of 16 (other_type c d) (says-type c d);
  of_bytes = flag-of 32 (other_bytes c d) (says-bytes c d);
  sum = refl;
}

pub part-what-same : (c d : DescribedComponent) (w v : ℕ) → PartWhat c d w → PartWhat c d v → w ≡ v
part-what-same c d w v s r = s.sum ∙ ap₂ ◌+◌ (ap₂ ◌+◌ (flag_same s.of_dtype r.of_dtype) (flag_same s.of_type r.of_type)) (flag_same s.of_bytes r.of_bytes) ∙ sym r.sum

-- ---------------------------------------------------------------- objects

module _ (cs ds : List DescribedComponent) where
  lone-at : (k : ℕ) (c : DescribedComponent) → get_elem? cs k ≡ some c → (r : Option (Found DescribedComponent)) → Seeking part_name ds c.name r → absent r ≡ true → Lone cs ds
  lone-at k c h r (nowhere g) e = record { index = k; it = c; here = h; lacks = g }
  lone-at k c h r (somewhere f at is) e = absurd (not-both e refl)

  says-lone : Says (lone cs ds) (Lone cs ds)
  says-lone = record {
    holds = λ e. let r = any-true (λ c. absent (part c.name ds)) cs e in lone-at r.0 r.1 r.2 (part r.1.name ds) (seeking part_name ds r.1.name) r.3;
    fails = λ e l. not-both (any_at (λ c. absent (part c.name ds)) cs l.index l.it l.here (ap absent (seek-lacks part_name ds l.it.name l.lacks))) e;
  }

  module _ (t : DescribedComponent → DescribedComponent → Bool) (R : DescribedComponent → DescribedComponent → Type 0) (says : (c d : DescribedComponent) → Says (t c d) (R c d)) where
    shared_at : (k : ℕ) (c : DescribedComponent) → get_elem? cs k ≡ some c → (r : Option (Found DescribedComponent)) → Seeking part_name ds c.name r → found (t c) r ≡ true → Shared R cs ds
    shared_at k c h r (nowhere g) e = absurd (not-both e refl)
    shared_at k c h r (somewhere f at is) e = record {
      first = k;
      second = f.index;
      one = c;
      other = f.it;
      both = record { here = h; there = at; alike = sym is };
      differ = (says c f.it).holds e;
    }

    not-shared : distinct (map part_name ds) ≡ true → shared t cs ds ≡ false → Shared R cs ds → ⊥
    not-shared u e s = go (t s.one s.other) refl
      where
        go : (b : Bool) → t s.one s.other ≡ b → ⊥
        go true q = not-both (any_at (λ c. found (t c) (part c.name ds)) cs s.first s.one s.both.here
            (ap (found (t s.one)) (seek-at part_name ds u s.one.name s.second s.other s.both.there (sym s.both.alike)) ∙ q)) e
        go false q = (says s.one s.other).fails q s.differ

    says-shared : distinct (map part_name ds) ≡ true → Says (shared t cs ds) (Shared R cs ds)
    says-shared u = record {
      holds = λ e. let r = any-true (λ c. found (t c) (part c.name ds)) cs e in shared_at r.0 r.1 r.2 (part r.1.name ds) (seeking part_name ds r.1.name) r.3;
      fails = not-shared u;
    }

pub object-what : (o p : DescribedObject) → distinct (map part_name p.components) ≡ true → ObjectWhat o p (object_what o p)
object-what o p u = let cs = o.components in let ds = p.components in record {
  shape = bit 1 (not (same o.shape p.shape));
  format = bit 2 (not (same o.format p.format));
  names = bit 4 (lone cs ds || lone ds cs);
  dtypes = bit 8 (shared other_dtype cs ds);
  types = bit 16 (shared other_type cs ds);
  bytes = bit 32 (shared other_bytes cs ds);
  of_shape = flag-of 1 (not (same o.shape p.shape)) (says-not (same o.shape p.shape) (says_same o.shape p.shape));
  of_format = flag-of 2 (not (same o.format p.format)) (says-not (same o.format p.format) (says_same o.format p.format));
  of_names = flag-of 4 (lone cs ds || lone ds cs) (says-or (lone cs ds) (lone ds cs) (says-lone cs ds) (says-lone ds cs));
  of_dtypes = flag-of 8 (shared other_dtype cs ds) (says-shared cs ds other_dtype OtherDtype says-dtype u);
  of_types = flag-of 16 (shared other_type cs ds) (says-shared cs ds other_type OtherType says-type u);
  of_bytes = flag-of 32 (shared other_bytes cs ds) (says-shared cs ds other_bytes OtherBytes says-bytes u);
  sum = refl;
}

pub object-what-same : (o p : DescribedObject) (w v : ℕ) → ObjectWhat o p w → ObjectWhat o p v → w ≡ v
object-what-same o p w v s r =
    s.sum
    ∙ ap₂ ◌+◌ (ap₂ ◌+◌ (ap₂ ◌+◌ (ap₂ ◌+◌ (ap₂ ◌+◌ (flag_same s.of_shape r.of_shape) (flag_same s.of_format r.of_format)) (flag_same s.of_names r.of_names))
    (flag_same s.of_dtypes r.of_dtypes)) (flag_same s.of_types r.of_types)) (flag_same s.of_bytes r.of_bytes)
    ∙ sym r.sum
