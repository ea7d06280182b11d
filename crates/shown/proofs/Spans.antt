-- The manifest's bytes that are still left in a file, and what a span made from them says.
use Prim.Native.Nat.{ℕ, ◌+◌, ◌-◌, ◌≤◌}
use native.Mathlib.Omega.{arith}
use mathlib.Core.List.{List, [], ◌++◌, append_assoc, append-nil}
use mathlib.Core.Path.{◌≡◌, refl, ap, ap₂, sym, ◌∙◌, subst}
use lib.ListN.{length, take, drop, length-append}
use lib.Seq.{take_at, drop_at}
use Rattle.meaning.specs.Tree.{Node, note_of, map_p, nothing, meaning}
use Rattle.meaning.specs.Read.{Span, span_to, no_note, got, item}
use Rattle.meaning.specs.Layouts.{Layout}
use Rattle.meaning.specs.Rows.{word_span}
use Rattle.meaning.proofs.ReadNatural.{map_out, item-follows}
use Rattle.meaning.proofs.ReadPrefix.{item-exact}
use Rattle.shown.specs.Accepted.{InManifest, WordStands, NodeStands}

-- s goes on with r
pub record Later (s r : List ℕ) : Type 0 where
  pub eaten : List ℕ
  pub split : s ≡ eaten ++ r

pub at_once : (s : List ℕ) → Later s s
at_once s = record { eaten = []; split = refl }

pub later-on : {o s r : List ℕ} → Later o s → Later s r → Later o r
later-on {o} {s} {r} l k = record {
  eaten = l.eaten ++ k.eaten;
  split = l.split ∙ ap (λ (z : List ℕ). l.eaten ++ z) k.split ∙ sym (append_assoc l.eaten k.eaten r);
}

pub later-length : {o s : List ℕ} (l : Later o s) → length o ≡ length l.eaten + length s
later-length {o} {s} l = ap length l.split ∙ length-append l.eaten s

-- a file whose manifest begins at `start` and ends at `end`, before the bytes `back`
module _ (file back : List ℕ) (start end : ℕ) where
  -- the bytes s are left of the manifest
  pub record Left (s : List ℕ) : Type 0 where
    pub front : List ℕ
    pub is : file ≡ front ++ (s ++ back)
    pub from : start ≤ length front

  pub left-later : {s r : List ℕ} → Left s → Later s r → Left r
  left-later {s} {r} l k = record {
    front = l.front ++ k.eaten;
    is = l.is
        ∙ ap (λ (z : List ℕ). l.front ++ (z ++ back)) k.split
        ∙ ap (λ (z : List ℕ). l.front ++ z) (append_assoc k.eaten r back)
        ∙ sym (append_assoc l.front k.eaten (r ++ back));
    from = let a : length (l.front ++ k.eaten) ≡ length l.front + length k.eaten = length-append l.front k.eaten in omega (arith, a, l.from);
  }

  left-length : {s : List ℕ} (l : Left s) → length file ≡ length l.front + (length s + length back)
  left-length {s} l = ap length l.is ∙ length-append l.front (s ++ back) ∙ ap (λ (n : ℕ). length l.front + n) (length-append s back)

  module _ (L : Layout) (whole : end + length back ≡ length file) (sized : L.size_back ≤ length back) where
    span-lies : {o r : List ℕ} → Left o → Later o r → InManifest L file start (span_to end o r)
    unfolding span_to
    span-lies {o} {r} l k =
        let a = left-length l in let b = later-length k in let c = l.from in
        record { begins = omega (arith, a, b, c, whole, sized); ends = omega (arith, a, b, c, whole, sized) }

    -- without its annotations
    unnoted : (d : ℕ) (s : List ℕ) → item no_note d s ≡ map_out (map_p nothing) (item (span_to end) d s)
    unfolding no_note
    unnoted d s = item-follows nothing (span_to end) d s

    -- the bytes from s up to r are there
    part-is : {s r : List ℕ} → Left s → (k : Later s r) → take (length s - length r) (drop (end - length s) file) ≡ k.eaten
    part-is {s} {r} l k =
        let a = left-length l in let b = later-length k in
        let there : file ≡ l.front ++ (k.eaten ++ (r ++ back)) =
        l.is ∙ ap (λ (z : List ℕ). l.front ++ (z ++ back)) k.split ∙ ap (λ (z : List ℕ). l.front ++ z) (append_assoc k.eaten r back) in
        ap (λ (z : List ℕ). take (length s - length r) (drop (end - length s) z)) there
        ∙ ap (take (length s - length r)) (drop_at l.front (k.eaten ++ (r ++ back)) (end - length s) (omega (arith, a, whole)))
        ∙ take_at k.eaten (r ++ back) (length s - length r) (omega (arith, b))

    -- a text that ends where its letters do
    pub word_stands : {o s : List ℕ} (bs r : List ℕ) → Left o → Later o s → s ≡ bs ++ r → WordStands L file start (record { note = span_to end o r; letters = bs })
    unfolding span_to word_span
    word_stands {o} {s} bs r l k e =
        let m = left-later l k in
        let a = left-length m in let b = later-length k in let c = m.from in
        let d : length s ≡ length bs + length r = ap length e ∙ length-append bs r in
        let f = left-length l in
        let place : ℕ = end - length o + (length o - length r) - length bs in
        let at : end - length s ≡ place = omega (arith, a, b, d, f, whole) in
        let size : length s - length r ≡ length bs = omega (arith, d) in
        record {
          lies = record { begins = omega (arith, at, a, c, whole); ends = omega (arith, a, d, at, whole, sized) };
          spelled = ap₂ (λ (n k : ℕ). take n (drop k file)) (sym size) (sym at) ∙ part-is m (record { eaten = bs; split = e });
        }

    -- an item that was read at s, up to r
    pub node-stands : (d : ℕ) {s r : List ℕ} (t : Node Span) → Left s → Later s r → note_of t ≡ span_to end s r → item (span_to end) d s ≡ got t r → NodeStands L file start d t
    unfolding span_to
    node-stands d {s} {r} t l k noted e =
        let bare : item no_note d s ≡ got (meaning t) r = unnoted d s ∙ ap (map_out (map_p nothing)) e in
        let took = item-exact d [] s (meaning t) r bare in
        let there = part-is l (record { eaten = took.eaten; split = took.split }) in
        record {
          lies = subst (InManifest L file start) (sym noted) (span-lies l k);
          read = ap (λ (p : Span). item no_note d (take p.size (drop p.place file))) noted
              ∙ ap (item no_note d) (there ∙ sym (append-nil took.eaten))
              ∙ took.again [] [];
        }
