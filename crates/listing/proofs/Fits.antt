-- The program always has room to print: what it prints of any file, and the line of any path, are no longer than what it lends.
use Prim.Native.Nat.{ℕ, zero, suc, ◌+◌, ◌*◌, ◌/◌, ◌%◌, ◌≤◌}
use native.Mathlib.Omega.{arith}
use mathlib.Core.List.{List, [], ◌∷◌, ◌++◌}
use mathlib.Core.Bool.{Bool, true, false, cond, ◌&&◌, not}
use mathlib.Core.Path.{◌≡◌, refl}
use lib.ListN.{length, get_or, length-append}
use lib.Dec.{eqb, leb, ltb}
use borrow.Author.Tests.{leb-true}
use Rattle.meaning.specs.Check.{Check, pass, refuse, ◌>>=◌, ◌>>◌, ◌unless◌}
use Rattle.meaning.specs.Refusal.{ROOM}
use Rattle.meaning.specs.Text.{ascii, within}
use Rattle.meaning.specs.Limit.{program_file, program_table}
use Rattle.meaning.specs.Model.{Component, Object, Model}
use Rattle.meaning.specs.Types.{Storage, storages, storage_of}
use Rattle.meaning.specs.Layouts.{current}
use Rattle.meaning.specs.Frame.{Reading, reading}
use Rattle.meaning.specs.Rows.{component_count, room_for, roomy, read_into}
use Rattle.meaning.specs.Listing.{digits, decimal, hex, shown, shown_text, blanked, line, blob_line, blob_lines, object_line, object_lines, listing, listing_of, printed}
use Rattle.meaning.specs.Every.{Every}
use Rattle.roundtrip.proofs.If.{passed-so}
use Rattle.listing.specs.Weight.{sum_of, component_weight, object_weight, model_weight}
use Rattle.listing.specs.Output.{heading, lent_path, lent_heading, lent_text}
use Rattle.listing.proofs.ModelWeighed.{reading-weighs}

-- ---- words

digits-fit : (k n : ℕ) → length (digits k n) ≤ suc k
unfolding digits
digits-fit zero n = omega arith
digits-fit (suc k) n = by (ltb n 10) (digits-fit k (n / 10))
  where
    by : (b : Bool) → length (digits k (n / 10)) ≤ suc k → length (cond b ((48 + n) ∷ []) (digits k (n / 10) ++ (48 + n % 10) ∷ [])) ≤ suc (suc k)
    by true d = omega arith
    by false d = let a = length-append (digits k (n / 10)) ((48 + n % 10) ∷ []) in omega (arith, a, d)

decimal-fits : (n : ℕ) → length (decimal n) ≤ 20
unfolding decimal
decimal-fits n = digits-fit 19 n

shown-fits : (b : ℕ) → length (shown b) ≤ 3
unfolding shown
shown-fits b = by (within 33 126 b && not (eqb b 92))
  where
    by : (t : Bool) → length (cond t (b ∷ []) (92 ∷ hex (b / 16) ∷ hex (b % 16) ∷ [])) ≤ 3
    by true = omega arith
    by false = omega arith

pub text-fits : (s : List ℕ) → length (shown_text s) ≤ 3 * length s
unfolding shown_text
text-fits [] = omega arith
text-fits (b ∷ s) = let a = length-append (shown b) (shown_text s) in let h = shown-fits b in let r = text-fits s in omega (arith, a, h, r)

at_most : (l : List Storage) (c : ℕ) (d : Storage) → Every (λ s. length s.called ≤ 4) l → length d.called ≤ 4 → length (get_or l c d).called ≤ 4
at_most [] c d h k = k
at_most (s ∷ l) zero d h k = h.0
at_most (s ∷ l) (suc c) d h k = at_most l c d h.1 k

storage-fits : (c : ℕ) → length (storage_of c).called ≤ 4
unfolding storage_of storages
storage-fits c = at_most storages c _ every-short (omega arith)
  where
    every-short : Every (λ s. length s.called ≤ 4) storages
    every-short =
        (omega arith, (omega arith, (omega arith, (omega arith, (omega arith, (omega arith, (omega arith, (omega arith, (omega arith, (omega arith, (omega arith, (omega arith, (omega arith, tt)))))))))))))

-- ---- lines

sum_lengths : List (List ℕ) → ℕ
sum_lengths [] = 0
sum_lengths (w ∷ ws) = suc (length w) + sum_lengths ws

blanked-length : (ws : List (List ℕ)) → length (blanked ws) ≡ suc (sum_lengths ws)
unfolding blanked sum_lengths
blanked-length [] = refl
blanked-length (w ∷ ws) = let a = length-append w (blanked ws) in let b = blanked-length ws in omega (arith, a, b)

line-length : (w : List ℕ) (ws : List (List ℕ)) → length (line w ws) ≡ length w + suc (sum_lengths ws)
unfolding line
line-length w ws = let a = length-append w (blanked ws) in let b = blanked-length ws in omega (arith, a, b)

module _ {P : Type 0} where
  blob-fits : (c : Component P) → length (blob_line c) ≤ 53 + 3 * component_weight c
  unfolding blob_line sum_lengths
  blob-fits c =
      let l = line-length (ascii "blob") (shown_text c.name.letters ∷ (storage_of c.dtype).called ∷ decimal c.offset ∷ decimal c.length ∷ []) in
      let n = text-fits c.name.letters in let s = storage-fits c.dtype in let o = decimal-fits c.offset in let z = decimal-fits c.length in
      omega (arith, l, n, s, o, z)

  blobs-fit : (cs : List (Component P)) → length (blob_lines cs) ≤ 53 * length cs + 3 * sum_of component_weight cs
  unfolding blob_lines
  blobs-fit [] = omega arith
  blobs-fit (c ∷ cs) = let a = length-append (blob_line c) (blob_lines cs) in let b = blob-fits c in let r = blobs-fit cs in omega (arith, a, b, r)

  object-fits : (o : Object P) → length (object_line o) ≤ 9 + 3 * (length o.name.letters + length o.format.letters)
  unfolding object_line sum_lengths
  object-fits o =
      let l = line-length (ascii "object") (shown_text o.name.letters ∷ shown_text o.format.letters ∷ []) in
      let n = text-fits o.name.letters in let f = text-fits o.format.letters in
      omega (arith, l, n, f)

  objects-fit : (os : List (Object P)) → length (object_lines os) ≤ 9 * length os + 53 * component_count os + 3 * sum_of object_weight os
  unfolding object_lines component_count
  objects-fit [] = omega arith
  objects-fit (o ∷ os) =
      let a : length (object_lines (o ∷ os)) ≡ length (object_line o) + (length (blob_lines o.components) + length (object_lines os)) = simp length-append (omega arith) in
      let l = object-fits o in let c = blobs-fit o.components in let r = objects-fit os in
      omega (arith, a, l, c, r)

  listing-fits : (m : Model P) → length (listing m) ≤ 61 + 9 * length m.objects + 53 * component_count m.objects + 3 * model_weight m
  unfolding listing sum_lengths
  listing-fits m =
      let h = line-length (ascii "objects") (decimal (length m.objects) ∷ ascii "components" ∷ decimal (component_count m.objects) ∷ []) in
      let a = length-append (line (ascii "objects") (decimal (length m.objects) ∷ ascii "components" ∷ decimal (component_count m.objects) ∷ [])) (object_lines m.objects) in
      let o = decimal-fits (length m.objects) in let c = decimal-fits (component_count m.objects) in let r = objects-fit m.objects in
      omega (arith, h, a, o, c, r)

refusal-fits : (n o c : ℕ) → length (line (ascii "refused") (decimal n ∷ decimal o ∷ decimal c ∷ [])) ≤ 71
unfolding sum_lengths
refusal-fits n o c =
    let l = line-length (ascii "refused") (decimal n ∷ decimal o ∷ decimal c ∷ []) in
    let a = decimal-fits n in let b = decimal-fits o in let d = decimal-fits c in
    omega (arith, l, a, b, d)

-- ---- what is printed

module _ (file : List ℕ) (short : length file ≤ program_file) where
  read_fits : length (listing_of (read_into current file program_table)) ≤ lent_text
  unfolding listing_of read_into roomy room_for
  read_fits = by (reading current file) refl
    where
      roomed : (r : Reading) → model_weight r.model ≤ length file → (b : Bool) → leb (room_for r.model) program_table ≡ b → length (listing_of ((ROOM unless b) >> pass r)) ≤ lent_text
      roomed r w true e =
          let room = leb-true (room_for r.model) program_table e in
          let l = listing-fits r.model in
          omega (arith, l, w, short, room)
      roomed r w false e = let l = refusal-fits ROOM 0 0 in omega (arith, l)

      by : (k : Check Reading) → reading current file ≡ k → length (listing_of (k >>= roomy program_table)) ≤ lent_text
      by (pass r) e = roomed r (passed-so (reading-weighs file) e) (leb (room_for r.model) program_table) refl
      by (refuse n o c) e = let l = refusal-fits n o c in omega (arith, l)

pub printed-fits : (file : List ℕ) → length (printed file) ≤ lent_text
unfolding printed line blanked
printed-fits file = by (leb (length file) program_file) refl
  where
    by : (b : Bool) → leb (length file) program_file ≡ b → length (cond b (listing_of (read_into current file program_table)) (line (ascii "too") (ascii "long" ∷ []))) ≤ lent_text
    by true e = read_fits file (leb-true (length file) program_file e)
    by false e = omega arith

-- ---- the line of a path

pub heading-fits : (path : List ℕ) → length path ≤ lent_path → length (heading path) ≤ lent_heading
unfolding heading
heading-fits path h = let a = length-append (shown_text path) (58 ∷ 10 ∷ []) in let t = text-fits path in omega (arith, a, t, h)
