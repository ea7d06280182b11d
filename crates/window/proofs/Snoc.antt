-- Objects after objects, and one more: sums, and names.
use Prim.Native.Nat.{ℕ, suc, ◌+◌, ◌*◌, ◌≤◌, ◌<◌}
use native.Mathlib.Omega.{arith}
use mathlib.Core.List.{List, [], ◌∷◌, ◌++◌, append-nil, append_assoc}
use mathlib.Core.Logic.{⊎_elim}
use mathlib.Core.Path.{◌≡◌, refl, sym, ap, ◌∙◌}
use lib.ListN.{length}
use Rattle.meaning.specs.Limit.{manifest_limit, end_limit}
use Rattle.meaning.specs.Read.{Span}
use Rattle.meaning.specs.Model.{Object}
use Rattle.meaning.specs.Rows.{word_span}
use Rattle.meaning.specs.Every.{Every}
use Rattle.endian.proofs.Which.{lt-or}
use Rattle.rows.specs.Turns.{reached}
use Rattle.rows.proofs.Turns.{reached-above, reached-joined}
use Rattle.sizes.specs.Size.{capped_end}
use Rattle.window.specs.Sums.{blobs_in, all_blobs, entry_sizes, name_pairs}
use Rattle.window.specs.Summed.{AddedOne, Sum}

pub blobs-on : (os ps : List (Object Span)) → all_blobs (os ++ ps) ≡ all_blobs os ++ all_blobs ps
unfolding all_blobs
blobs-on [] ps = refl
blobs-on (o ∷ os) ps = ap (λ (r : List ℕ). blobs_in o ++ r) (blobs-on os ps) ∙ sym (append_assoc (blobs_in o) (all_blobs os) (all_blobs ps))

pub entries-on : (p : ℕ) (os ps : List (Object Span)) → entry_sizes p (os ++ ps) ≡ entry_sizes p os + entry_sizes (reached [] p (all_blobs os)) ps
unfolding entry_sizes all_blobs reached
entries-on p [] ps = omega arith
entries-on p (o ∷ os) ps =
    omega (arith, entries-on (reached [] p (blobs_in o)) os ps, ap (λ (k : ℕ). entry_sizes k ps) (reached-joined [] p (blobs_in o) (all_blobs os)))

pub names-snoc : (os : List (Object Span)) (o : Object Span) → name_pairs (os ++ o ∷ []) ≡ name_pairs os ++ (word_span o.name).place ∷ (word_span o.name).size ∷ []
unfolding name_pairs
names-snoc [] o = refl
names-snoc (x ∷ os) o = ap (λ (r : List ℕ). (word_span x.name).place ∷ (word_span x.name).size ∷ r) (names-snoc os o)

pub names-length : (os : List (Object Span)) → length (name_pairs os) ≡ 2 * length os
unfolding name_pairs
names-length [] = refl
names-length (o ∷ os) = omega (arith, names-length os)

pub every_front : {A : Type 0} (Q : A → Type 0) (l : List A) (a : A) → Every Q (l ++ a ∷ []) → Every Q l
every_front Q [] a h = tt
every_front Q (x ∷ l) a (h, hs) = (h, every_front Q l a hs)

pub every-last : {A : Type 0} (Q : A → Type 0) (l : List A) (a : A) → Every Q (l ++ a ∷ []) → Q a
every-last Q [] a (h, hs) = h
every-last Q (x ∷ l) a (h, hs) = every-last Q l a hs

pub no-sum : (p n : ℕ) → p ≤ suc end_limit → n ≤ suc manifest_limit → Sum p n [] p n
unfolding all_blobs entry_sizes reached
no-sum p n h k = record { ends = omega (arith, h); adds = λ l. omega (arith, k) }

-- sums go on where others ended
pub sums_on : {p n q k q' k' : ℕ} (os ps : List (Object Span)) → Sum p n os q k → Sum q k ps q' k' → Sum p n (os ++ ps) q' k'
sums_on {p} {n} {q} {k} {q'} {k'} os ps s a =
    let end : ℕ = reached [] p (all_blobs os) in
    let on : reached [] p (all_blobs (os ++ ps)) ≡ reached [] end (all_blobs ps) = ap (reached [] p) (blobs-on os ps) ∙ reached-joined [] p (all_blobs os) (all_blobs ps) in
    let low = reached-above [] end (all_blobs ps) in
    let low' = reached-above [] q (all_blobs ps) in
    let e = s.ends in
    let e' = a.ends in
    record {
      ends =
          ⊎_elim (λ (far : end_limit < end). omega (arith, far, e, e', low, low', on))
          (λ (near : end ≤ end_limit).
          let is : q ≡ end = omega (arith, e, near) in
          e' ∙ ap (λ (x : ℕ). capped_end (reached [] x (all_blobs ps))) is ∙ ap capped_end (sym on)) (lt-or end_limit end);
      adds = λ l.
          let q-low : q ≤ end_limit = omega (arith, l, e', low') in
          let is : q ≡ end = omega (arith, e, q-low) in
          omega (arith, s.adds q-low, a.adds l, entries-on p os ps, ap (λ (x : ℕ). entry_sizes x ps) is);
    }

one-sum : {p n q k : ℕ} (o : Object Span) → AddedOne p n q k o → Sum p n (o ∷ []) q k
unfolding all_blobs entry_sizes reached
one-sum {p} o a = record { ends = a.ends ∙ ap (λ (bs : List ℕ). capped_end (reached [] p bs)) (sym (append-nil (blobs_in o))); adds = λ l. omega (arith, a.adds l) }

pub one_more : {p n q k q' k' : ℕ} (os : List (Object Span)) (o : Object Span) → Sum p n os q k → AddedOne q k q' k' o → Sum p n (os ++ o ∷ []) q' k'
one_more os o s a = sums_on os (o ∷ []) s (one-sum o a)
