-- An item, passed or refused: as it begins, and for one that holds others after each that it holds.
use Prim.Native.Nat.{ℕ, zero, suc, ◌+◌, ◌-◌, ◌≤◌, ◌<◌}
use native.Mathlib.Omega.{arith}
use mathlib.Core.List.{List, [], ◌∷◌}
use mathlib.Core.Bool.{false}
use mathlib.Core.Path.{◌≡◌, refl, ap, sym, ◌∙◌, subst}
use lib.ListN.{length, get_or, take, drop, length-drop}
use mir.Syntax.{w64}
use mir.Val.{Fits}
use borrow.Author.Rules.{part_to_end}
use lib.Seq.{drop-drop}
use Rattle.meaning.specs.Read as read
use Rattle.meaning.specs.Read.{refused, item, no_note}
use Rattle.meaning.proofs.ReadPrefix.{item-exact}
use Rattle.cbor.specs.declared.Argued.{Argued}
use Rattle.cbor.specs.declared.Holding.{Holding}
use Rattle.cbor.specs.Ending.{FAULT, code, ending, took, fault, shift, item_end, head_of, holds, held, doubled, HolderIs, rest, broken, endless}
use Rattle.cbor.proofs.Ends.{fine-ending, is-took, is-fault, shift-shift, got-what, refused-what}
use Rattle.cbor.proofs.Loops.{holds-others, holds-none}
use Rattle.cbor.proofs.Rest as due
use Rattle.cbor.proofs.FirstByte as leads
use Rattle.stop.specs.declared.Begun.{Begun}
use Rattle.stop.specs.declared.Begun.TheVariants.{Ended, Holds}
use Rattle.stop.specs.Stop.{LeftBy, Refuses, PlainStops, head_left, Inside, Opens, Reaches, Light, Begins}
use Rattle.stop.proofs.Heads as heads
use Rattle.stop.proofs.Turns.{Lent, onwards, Inv, from_at, stops-here, stops_at, goes_on, at-end}
use Rattle.std.specs.Prelude.{Result, Ok, Err}

-- what was answered of a part of s that goes on to its end, where the answer is known
pub told : {R : Type 0} (P : List ℕ → R → Type 0) (s : List ℕ) (at : ℕ) {r v : R} → P (take (length s - at) (drop at s)) r → r ≡ v → P (drop at s) v
told P s at {r} f e = subst (P (drop at s)) e (subst (λ u. P u r) (part_to_end s at) f)

-- ---------------------------------------------------------------- refused or not

refuses : (d : ℕ) (s : List ℕ) {c k : ℕ} → item_end d s ≡ fault c → LeftBy (item no_note d) s k → Refuses (item no_note d) s k
refuses d s e f = let r = refused-what (item no_note d) (item-exact d) s _ e in record { number = _; at = r.at; is = r.is; left = f _ _ r.is }

-- an item by its end's number
module _ (d : ℕ) (s : List ℕ) (room : length s < FAULT) (r : ℕ) (is : r ≡ code (item_end d s)) where
  passes : r ≤ length s → item_end d s ≡ took r
  passes l = is-took s room r (item_end d s) (fine-ending s (item no_note d s)) is l

  stops : {k : ℕ} → length s < r → LeftBy (item no_note d) s k → Refuses (item no_note d) s k
  stops l f = refuses d s (is-fault s room r (item_end d s) (fine-ending s (item no_note d s)) is l).is f

-- an item by the number that `skip` answers of all of s
module _ (d : ℕ) (s : List ℕ) (lent : Lent s) (r : ℕ) (said : r ≡ code (item_end d (onwards s 0))) where
  is : r ≡ code (item_end d s)
  is = told (λ u r. r ≡ code (item_end d u)) s 0 said refl

  pub skip-passes : r ≤ length s → item_end d s ≡ took r
  skip-passes = passes d s (omega arith) r is

  pub skip-stops : {k : ℕ} → 0 < d → holds (get_or s 0 0) ≡ false → length s < r → PlainStops (onwards s 0) k → Refuses (item no_note d) s k
  skip-stops {k} some h l f = stops d s (omega arith) r is l (at d refl)
    where
      at : (e : ℕ) → d ≡ e → LeftBy (item no_note d) s k
      at zero z = absurd (omega arith)
      at (suc e) z = λ n q g. told PlainStops s 0 f refl e h n q (ap (λ d. item no_note d s) (sym z) ∙ g)

-- what `plain` asks of the first byte, and what it tells
module _ (s : List ℕ) where
  none-held : (128 ≤ get_or s 0 0 → get_or s 0 0 < 224 → ⊥) → holds (get_or (onwards s 0) 0 0) ≡ false
  none-held n = rw part_to_end (holds-none (get_or s 0 0) n)

  pub low-holds-none : get_or s 0 0 < 128 → holds (get_or (onwards s 0) 0 0) ≡ false
  low-holds-none l = none-held (λ x y. omega arith)

  pub high-holds-none : 224 ≤ get_or s 0 0 → holds (get_or (onwards s 0) 0 0) ≡ false
  high-holds-none l = none-held (λ x y. omega arith)

  pub plain-ends : (d : ℕ) (r : Result ℕ ℕ) → Reaches d (onwards s 0) r → Begins d s (Ended r)
  plain-ends d r f = told (Reaches d) s 0 {r = r} f refl

-- ---------------------------------------------------------------- where an item is refused as it begins

no_item : (d : ℕ) → item no_note d [] ≡ refused 6 []
unfolding item read.beyond read.here read.byte
no_item zero = refl
no_item (suc d) = refl

a-break : (d b : ℕ) (t : List ℕ) → b ≡ 255 → item no_note d (b ∷ t) ≡ refused 6 (b ∷ t)
unfolding item read.beyond read.here read.byte read.info_of read.argument read.long_arguments read.major_of read.content
a-break zero b t e = ap (λ b. item no_note 0 (b ∷ t)) e ∙ ap (λ b. refused 6 (b ∷ t)) (sym e)
a-break (suc d) b t e = ap (λ b. item no_note (suc d) (b ∷ t)) e ∙ ap (λ b. refused 6 (b ∷ t)) (sym e)

pub nothing-there : (d : ℕ) (s : List ℕ) → length s ≡ 0 → Refuses (item no_note d) s 0
nothing-there d [] e = record { number = 6; at = []; is = no_item d; left = refl }
nothing-there d (b ∷ s) e = absurd (omega arith)

pub too-deep : (d : ℕ) (s : List ℕ) → d ≡ 0 → (length s ≡ 0 → ⊥) → Refuses (item no_note d) s (length s)
unfolding item read.beyond
too-deep d [] z n = absurd (n refl)
too-deep zero (b ∷ s) z n = record { number = _; at = b ∷ s; is = refl; left = refl }
too-deep (suc d) (b ∷ s) z n = absurd (omega arith)

pub open-tag : (d : ℕ) (s : List ℕ) → (d ≡ 0 → ⊥) → get_or s 0 0 ≡ 223 → Refuses (item no_note d) s (length s)
unfolding item read.here read.byte read.info_of read.argument read.long_arguments read.major_of read.content
open-tag zero s l e = absurd (l refl)
open-tag (suc d) [] l e = absurd (omega arith)
open-tag (suc d) (b ∷ s) l e = record { number = 6; at = b ∷ s; is = ap (λ b. item no_note (suc d) (b ∷ s)) e ∙ ap (λ b. refused 6 (b ∷ s)) (sym e); left = refl }

-- the head h that was read of all of s
module _ (d : ℕ) (s : List ℕ) (level : d ≡ 0 → ⊥) (low : 128 ≤ get_or s 0 0) (h : Argued) (said : h ≡ head_of (onwards s 0)) where
  head-is : h ≡ head_of s
  head-is = told (λ u h. h ≡ head_of u) s 0 said refl

  pub bad-head : length s < h.size → {k : ℕ} → k ≡ head_left (onwards s 0) → Refuses (item no_note d) s k
  bad-head l {k} e = subst (Refuses (item no_note d) s) (sym (told (λ u k. k ≡ head_left u) s 0 e refl)) (go d s level low (let z = ap (λ (h : Argued). h.size) head-is in omega (arith, z, l)))
    where
      go : (d : ℕ) (s : List ℕ) → (d ≡ 0 → ⊥) → 128 ≤ get_or s 0 0 → length s < (head_of s).size → Refuses (item no_note d) s (head_left s)
      go zero s l b k = absurd (l refl)
      go (suc d) [] l b k = absurd (omega arith)
      go (suc d) (b ∷ t) l h k = heads.no-head d b t k

  pub holder-opens : (length s ≡ 0 → ⊥) → Lent s → get_or s 0 0 < 224 → h.size ≤ length s → (get_or s 0 0 ≡ 223 → ⊥) → (r : Holding) → Inside (get_or s 0 0) h r → Opens d s r
  holder-opens some lent high w closed r i = record {
    level = omega arith;
    size_is = i.size_is ∙ ap (λ (h : Argued). h.size) head-is;
    within = omega (arith, i.size_is);
    low = low;
    high = high;
    closed = closed;
    holder = i.holds-it s (omega arith) (omega arith) refl (sym head-is);
  }

-- ---------------------------------------------------------------- what an item holds that begins with b and has the head h

module _ (b : ℕ) (h : Argued) where
  pub tag-inside : 192 ≤ b → (b ≡ 223 → ⊥) → Inside b h (held h.size 1 0)
  tag-inside l n = record { size_is = refl; holds-it = λ s k room e f. subst (λ h. HolderIs s (held h.size 1 0)) f (leads.tag-holds s k room (omega arith) (λ z. n (sym e ∙ z))) }

  pub open-map-inside : b ≡ 191 → Inside b h (held h.size h.value 2)
  open-map-inside i = record { size_is = refl; holds-it = λ s k room e f. subst (λ h. HolderIs s (held h.size h.value 2)) f (leads.open-map-holds s k room (e ∙ i)) }

  pub map-inside : 160 ≤ b → b < 192 → (b ≡ 191 → ⊥) → {n : ℕ} → n ≡ doubled h.value → Inside b h (held h.size n 0)
  map-inside l u not-191 {n} is = record {
    size_is = refl;
    holds-it = λ s k room e f. subst (λ n. HolderIs s (held h.size n 0)) (sym is)
        (subst (λ h. HolderIs s (held h.size (doubled h.value) 0)) f (leads.map-holds s k room (omega arith) (omega arith) (λ z. not-191 (sym e ∙ z))));
  }

  pub open-array-inside : b ≡ 159 → Inside b h (held h.size h.value 1)
  open-array-inside i = record { size_is = refl; holds-it = λ s k room e f. subst (λ h. HolderIs s (held h.size h.value 1)) f (leads.open-array-holds s k room (e ∙ i)) }

  pub array-inside : b < 160 → (b ≡ 159 → ⊥) → Inside b h (held h.size h.value 0)
  array-inside l not-159 = record { size_is = refl; holds-it = λ s k room e f. subst (λ h. HolderIs s (held h.size h.value 0)) f (leads.array-holds s k room (omega arith) (λ z. not-159 (sym e ∙ z))) }

-- ---------------------------------------------------------------- an item that holds others

-- n items are due from `at` on: they tell how the whole item ends, and what it is refused for stops their run
pub record Walk (d : ℕ) (s : List ℕ) (mode n at : ℕ) : Type 0 where
  pub room : length s < FAULT
  pub level : 0 < d
  pub going : Inv (item no_note d) (item no_note (d - 1)) s at
  pub counted : 1 ≤ mode → endless ≤ n + at
  pub ends : item_end d s ≡ shift at (rest mode n (d - 1) (drop at s))

begins-with : (d : ℕ) (s : List ℕ) (r : Holding) → length s < FAULT → Opens d s r → Walk d s r.mode r.count r.size
begins-with zero s r room o = absurd (omega arith)
begins-with (suc d) [] r room o = absurd (omega arith)
begins-with (suc d) (b ∷ t) r room o = let z : suc d - 1 ≡ d = omega arith in record {
  room = room;
  level = omega arith;
  going = record {
    within = o.within;
    run = λ n q e. rw (z, o.size_is) (heads.goes_in d b t e room o.low o.high o.closed (omega arith));
  };
  counted = λ m. omega (arith, o.holder.counted m);
  ends = rw z (o.holder.inside o.within (holds-others b o.low o.high) d);
}

-- what `begin` answered of all of s
module _ (d : ℕ) (s : List ℕ) (o : Begun) (f : Begins d (onwards s 0) o) where
  pub ended : {r : Result ℕ ℕ} → o ≡ Ended r → Reaches d s r
  ended e = told (Begins d) s 0 f e

  pub begins : {r : Holding} → Lent s → o ≡ Holds r → Walk d s r.mode r.count r.size
  begins lent e = begins-with d s _ (omega arith) (told (Begins d) s 0 f e)

-- what `light` or `pass` answered of an item that is held
module _ (d : ℕ) (s : List ℕ) (at k : ℕ) where
  pub by-light : Light d (onwards s at) k → k ≤ length s - at → item_end d (drop at s) ≡ took k
  by-light f l = told (Light d) s at f refl (omega (arith, length-drop at s))

  pub by-pass : {o : Result ℕ ℕ} → Reaches d (onwards s at) o → o ≡ Ok k → item_end d (drop at s) ≡ took k
  by-pass f e = told (Reaches d) s at f e

module _ {d : ℕ} {s : List ℕ} {mode n at : ℕ} (w : Walk d s mode n at) where
  pub all-passed : n ≤ 0 → item_end d s ≡ took at
  all-passed l = go mode refl
    where
      z : n ≡ 0
      z = omega arith

      go : (m : ℕ) → mode ≡ m → item_end d s ≡ took at
      go zero e =
          let y : at + 0 ≡ at = omega arith in
          w.ends ∙ ap (λ m. shift at (rest m n (d - 1) (drop at s))) e ∙ ap (λ n. shift at (rest 0 n (d - 1) (drop at s))) z ∙ ap (shift at) (due.none-due (d - 1) (drop at s)) ∙ ap took y
      go (suc m) e = absurd (omega (arith, w.counted (omega arith)))

  module _ (some : 0 < n) where
    pub missing : length s ≤ at → Refuses (item no_note d) s 0
    missing l =
        refuses d s (w.ends ∙ ap (shift at) (due.rest-ends-early (d - 1) mode n (drop at s) some (omega (arith, length-drop at s)))) (at-end w.going l (no_item (d - 1)))

    module _ (l : at < length s) where
      first : get_or (drop at s) 0 0 ≡ get_or s at 0
      first = ap (λ u. get_or u 0 0) (from_at s at l)

      left_over : 1 ≤ length (drop at s)
      left_over = omega (arith, length-drop at s)

      module _ (is : get_or s at 0 ≡ 255) (r : ℕ) (e : r ≡ code (shift at (broken mode n))) where
        answers : r ≡ code (item_end d s)
        answers = e ∙ ap code (sym (w.ends ∙ ap (shift at) (due.rest-breaks (d - 1) mode n (drop at s) some left_over (first ∙ is))))

        pub break-passes : r ≤ length s → item_end d s ≡ took r
        break-passes = passes d s w.room r answers

        pub break-stops : length s < r → Refuses (item no_note d) s (length s - at)
        break-stops k = stops d s w.room r answers k (stops-here w.going l (a-break (d - 1) (get_or s at 0) (drop (suc at) s) is))

      module _ (no : get_or s at 0 ≡ 255 → ⊥) where
        pub item-stops : {o : Result ℕ ℕ} {k : ℕ} → Reaches (d - 1) (onwards s at) o → o ≡ Err k → {q : Result ℕ ℕ} → q ≡ Err k → Reaches d s q
        item-stops f e is-q = rw is-q
            let x = told (Reaches (d - 1)) s at f e in
            refuses d s
            (w.ends ∙ ap (shift at) (due.rest-stops (d - 1) mode n (drop at s) x.number some left_over (λ e. no (sym first ∙ e)) (ap (ending (drop at s)) x.is)))
            (stops_at w.going l x.is x.left)

        -- an item of k bytes was passed
        module _ (k : ℕ) (e : item_end (d - 1) (drop at s) ≡ took k) where
          pub item-passes : Walk d s mode (n - 1) (at + k)
          item-passes =
              let p = got-what (item no_note (d - 1)) (item-exact (d - 1)) (drop at s) k e in
              let one = due.takes-a-byte (d - 1) (drop at s) k e in
              record {
                room = w.room;
                level = w.level;
                going = goes_on w.going k l p.is (omega (arith, p.within, length-drop at s));
                counted = λ m. omega (arith, w.counted m);
                ends = w.ends ∙ ap (shift at) (due.rest-goes-on (d - 1) mode n (drop at s) k some left_over (λ e. no (sym first ∙ e)) e)
                    ∙ shift-shift at k (rest mode (n - 1) (d - 1) (drop k (drop at s))) ∙ ap (λ u. shift (at + k) (rest mode (n - 1) (d - 1) u)) (drop-drop k at s);
              }

          pub next_fits : Fits w64 (at + k)
          next_fits = record { fits = omega (arith, item-passes.going.within, w.room) }

          pub fewer-left : length s - (at + k) < length s - at
          fewer-left = omega (arith, due.takes-a-byte (d - 1) (drop at s) k e, item-passes.going.within)
