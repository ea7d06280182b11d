-- Bytes that are read as a map begin as one: so an accepted file's attributes are what the writer asks of attributes.
use Prim.Native.Nat.{ℕ, zero, suc, ◌/◌}
use native.Mathlib.Omega.{arith}
use mathlib.Core.List.{List, [], ◌∷◌}
use mathlib.Core.Bool.{Bool, true, false, cond}
use mathlib.Core.Path.{◌≡◌, refl, ap, sym, ◌∙◌}
use lib.Dec.{eqb, leb}
use lib.ListN.{get_or}
use borrow.Author.Tests.{ne_eqb}
use Rattle.meaning.specs.Check.{pass}
use Rattle.meaning.specs.Tree.{Node, Pair, uint, nint, bytes, text, chunked_bytes, chunked_text, array, dict, tag, simple, float, meaning, nodes, pairs}
use Rattle.meaning.specs.Read.{Outcome, got, refused, Reader, after, ◌>>=◌, here, byte, run, times, to_break, joined, Argument, known, indefinite, argument, info_of, chunk, reserved, malformed, close, pair, content, item, no_note}
use Rattle.meaning.specs.Read.{Major, unsigned, negative, byte_string, text_string, array_of, map_of, tagged, special, majors, major_of}
use Rattle.meaning.specs.Kind as kinds
use Rattle.meaning.specs.Sound.{a_map, begins_as_map, fills_or_deep}
use Rattle.meaning.proofs.ReadPrefix.{never-got}
use Rattle.meaning.proofs.Checks.{refused-is-not}

abbrev Bare : Type 0
Bare = Node (Unit {0})

is_dict : {P : Type 0} → Node P → Bool
is_dict (uint p n) = false
is_dict (nint p n) = false
is_dict (bytes p b) = false
is_dict (text p b) = false
is_dict (chunked_bytes p b) = false
is_dict (chunked_text p b) = false
is_dict (array p ns) = false
is_dict (dict p ps) = true
is_dict (tag p n t) = false
is_dict (simple p n) = false
is_dict (float p w b) = false

is_map : Major → Bool
is_map unsigned = false
is_map negative = false
is_map byte_string = false
is_map text_string = false
is_map array_of = false
is_map map_of = true
is_map tagged = false
is_map special = false

closed-as : (o : List ℕ) (make : Unit {0} → Bare) (c : Bool) (s : List ℕ) (t : Bare) (r : List ℕ) → is_dict (make tt) ≡ c → close no_note o make s ≡ got t r → is_dict t ≡ c
unfolding close no_note
closed-as o make c s t r h e = let q : make tt ≡ t = cc in ap is_dict (sym q) ∙ h

ends_as : {A : Type 0} (m : Reader A) (o : List ℕ) (make : A → Unit {0} → Bare) (c : Bool) (s : List ℕ) (t : Bare) (r : List ℕ)
    → ((a : A) → is_dict (make a tt) ≡ c) → (m >>= λ a. close no_note o (make a)) s ≡ got t r → is_dict t ≡ c
ends_as {A} m o make c s t r h = go (m s)
  where
    go : (q : Outcome A) → after q (λ a. close no_note o (make a)) ≡ got t r → is_dict t ≡ c
    go (got a s') e = closed-as o (make a) c s' t r (h a) e
    go (refused n q) e = absurd (never-got e)

-- the same, where nothing reserves the value
free-as : (b : Bool) (o : List ℕ) (make : Unit {0} → Bare) (c : Bool) (s : List ℕ) (t : Bare) (r : List ℕ) → is_dict (make tt) ≡ c
    → cond b (malformed o) (close no_note o make) s ≡ got t r → is_dict t ≡ c
free-as true o make c s t r h e = absurd (never-got e)
free-as false o make c s t r h e = closed-as o make c s t r h e

special-as : (b : Bool) (w n : ℕ) → is_dict {P = Unit {0}} (cond b (simple tt n) (float tt w n)) ≡ false
unfolding is_dict
special-as true w n = refl
special-as false w n = refl

module _ (it : Reader Bare) (o s : List ℕ) (t : Bare) (r : List ℕ) where
  content-as : (m : Major) (a : Argument) → content no_note it o m a s ≡ got t r → is_dict t ≡ is_map m
  unfolding content is_map is_dict
  content-as unsigned (known w n) e = closed-as o _ false s t r refl e
  content-as unsigned indefinite e = absurd (never-got e)
  content-as negative (known w n) e = closed-as o _ false s t r refl e
  content-as negative indefinite e = absurd (never-got e)
  content-as byte_string (known w n) e = ends_as (run n) o (λ b p. bytes p b) false s t r (λ a. refl) e
  content-as byte_string indefinite e = ends_as (to_break (chunk 2)) o (λ c p. chunked_bytes p (joined c)) false s t r (λ a. refl) e
  content-as text_string (known w n) e = ends_as (run n) o (λ b p. text p b) false s t r (λ a. refl) e
  content-as text_string indefinite e = ends_as (to_break (chunk 3)) o (λ c p. chunked_text p (joined c)) false s t r (λ a. refl) e
  content-as array_of (known w n) e = ends_as (times it n) o (λ l p. array p (nodes l)) false s t r (λ a. refl) e
  content-as array_of indefinite e = ends_as (to_break it) o (λ l p. array p (nodes l)) false s t r (λ a. refl) e
  content-as map_of (known w n) e = ends_as (times (pair no_note it) n) o (λ l p. dict p (pairs l)) true s t r (λ a. refl) e
  content-as map_of indefinite e = ends_as (to_break (pair no_note it)) o (λ l p. dict p (pairs l)) true s t r (λ a. refl) e
  content-as tagged (known w n) e = ends_as it o (λ x p. tag p n x) false s t r (λ a. refl) e
  content-as tagged indefinite e = absurd (never-got e)
  content-as special (known w n) e = free-as (reserved w n) o (λ p. cond (leb w 1) (simple p n) (float p w n)) false s t r (special-as (leb w 1) w n) e
  content-as special indefinite e = absurd (never-got e)

major-as : (m : ℕ) → is_map (get_or majors m special) ≡ eqb m 5
unfolding is_map
major-as zero = refl
major-as (suc zero) = refl
major-as (suc (suc zero)) = refl
major-as (suc (suc (suc zero))) = refl
major-as (suc (suc (suc (suc zero)))) = refl
major-as (suc (suc (suc (suc (suc zero))))) = refl
major-as (suc (suc (suc (suc (suc (suc zero)))))) = refl
major-as (suc (suc (suc (suc (suc (suc (suc m))))))) = sym (ne_eqb (suc (suc (suc (suc (suc (suc (suc m))))))) 5 (λ e. omega arith))

item-as : (d b : ℕ) (s : List ℕ) (t : Bare) (r : List ℕ) → item no_note (suc d) (b ∷ s) ≡ got t r → is_dict t ≡ eqb (b / 32) 5
unfolding item here byte major_of
item-as d b s t r e = go (argument (b ∷ s) (info_of b) s) e
  where
    go : (q : Outcome Argument) → after q (λ a. content no_note (item no_note d) (b ∷ s) (get_or majors (b / 32) special) a) ≡ got t r → is_dict t ≡ eqb (b / 32) 5
    go (got a s') e = content-as (item no_note d) (b ∷ s) s' t r (get_or majors (b / 32) special) a e ∙ major-as (b / 32)
    go (refused n q) e = absurd (never-got e)

simple-not : {P : Type 0} (b : Bool) (l : List (Pair P)) → kinds.as_mapping (cond b kinds.null kinds.another) ≡ pass l → ⊥
unfolding kinds.as_mapping
simple-not true l e = refused-is-not e
simple-not false l e = refused-is-not e

-- a node that is a table
table_is : {P : Type 0} (t : Node P) (l : List (Pair P)) → kinds.a_mapping t ≡ pass l → is_dict (meaning t) ≡ true
unfolding is_dict kinds.a_mapping kinds.as_mapping kinds.kind
table_is (uint p n) l e = absurd (refused-is-not e)
table_is (nint p n) l e = absurd (refused-is-not e)
table_is (bytes p b) l e = absurd (refused-is-not e)
table_is (text p b) l e = absurd (refused-is-not e)
table_is (chunked_bytes p b) l e = absurd (refused-is-not e)
table_is (chunked_text p b) l e = absurd (refused-is-not e)
table_is (array p ns) l e = absurd (refused-is-not e)
table_is (dict p ps) l e = refl
table_is (tag p n t) l e = absurd (refused-is-not e)
table_is (simple p n) l e = absurd (simple-not (eqb n 22) l e)
table_is (float p w b) l e = absurd (refused-is-not e)

nothing_read : (d : ℕ) (t : Bare) → item no_note (suc d) [] ≡ got t [] → ⊥
unfolding item here byte
nothing_read d t e = never-got e

pub map-is-well-formed : {P : Type 0} (d : ℕ) (bs : List ℕ) (t : Node P) (l : List (Pair P)) → item no_note (suc d) bs ≡ got (meaning t) [] → kinds.a_mapping t ≡ pass l → a_map (suc d) bs ≡ true
unfolding a_map begins_as_map fills_or_deep
map-is-well-formed d [] t l e k = absurd (nothing_read d (meaning t) e)
map-is-well-formed d (b ∷ s) t l e k = rw (sym (item-as d b s (meaning t) [] e) ∙ table_is t l k, e)
