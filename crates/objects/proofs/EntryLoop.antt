-- A turn of the loop over the entries of the `objects` map: what was noted of the pairs passed, and of one more.
use Prim.Native.Nat.{ℕ, ◌+◌, ◌-◌, ◌*◌, ◌^◌, ◌≤◌, ◌<◌}
use native.Mathlib.Omega.{arith}
use mathlib.Core.List.{List, []}
use mathlib.Core.Bool.{Bool, true, false}
use mathlib.Core.Path.{◌≡◌, refl, ◌∙◌}
use lib.ListN.{length, replicate}
use borrow.Author.Rules.{part_to_end}
use mir.Syntax.{w64}
use mir.Val.{Fits}
use Rattle.meaning.specs.Columns.{object_width}
use Rattle.meaning.specs.Tree.{Pair}
use Rattle.meaning.specs.Rows.{component_count}
use Rattle.meaning.specs.Layouts.{Layout, layout_of}
use Rattle.cbor.specs.Ending.{code, item_end, rest}
use Rattle.walk.specs.Reading.{Ends}
use Rattle.walk.specs.Places.{EntryIs, Modes}
use Rattle.walk.specs.declared.Entry.{Entry}
use Rattle.walk.specs.declared.Entry.TheVariants.{End, Value}
use Rattle.walk.proofs.Passed as passed
use Rattle.walk.proofs.Passed.{Here, Passed}
use Rattle.naming.specs.NotedNames.{tally, Noted}
use Rattle.naming.specs.declared.Tally.{Tally}
use Rattle.naming.proofs.NameNoted.{none-noted}
use Rattle.table.specs.Objects.{WholePut, ObjectsLaid, AllLaid}
use Rattle.table.proofs.ObjectLoop.{none-laid, one-more-laid}
use Rattle.objects.specs.Firsts.{entries, OneIs, Beyond, Keeps, Kept, Walked}
use Rattle.objects.proofs.Laying.{onward}
use Rattle.std.specs.Prelude.{Ok, Result}
use Rattle.numbers.specs.declared.fault.FileFault.{FileFault}
use Rattle.numbers.specs.declared.fault.ObjectFault.{ObjectFault}

none_kept : (deep : Bool) (L : Layout) (start : ℕ) (s left size : List ℕ) → length size ≡ length left → Kept deep L start s (tally 0 false false) left size (Ok 0) []
unfolding entries component_count
none_kept deep L start s left size e = record { named = none-noted s left size e; judged = record { found = []; passed = refl; few = omega arith; totals = λ l. refl } }

-- what was noted of the pairs passed, and the table
pub record SoFar (deep : Bool) (layout start end from : ℕ) (s : List ℕ) (names : Tally) (left size : List ℕ) (first : Result ℕ FileFault) (before : List ℕ) (row next : ℕ) (t : List ℕ) (done : List (Pair Ends)) : Type 0 where
  pub kept : Kept deep (layout_of layout) start s names left size first done
  pub laid : deep ≡ true → ObjectsLaid layout start end from before row next t done

-- up to `at`, with n items due
pub record Looping (deep : Bool) (layout start end from mode count : ℕ) (s before : List ℕ) (at n : ℕ) (names : Tally) (left₀ left size : List ℕ) (first : Result ℕ FileFault) (rows : List ℕ) (row next : ℕ) (t : List ℕ) : Type 0 where
  pub walking : Passed 30 mode count s at n (SoFar deep layout start end from s names left size first before row next t)
  pub slots : length left ≡ length left₀
  pub room : length rows ≡ 64
  pub long : length t ≡ length before

-- before the first turn
pub loop-starts : (deep : Bool) (layout start end from mode count : ℕ) (s left size before : List ℕ) → length s * 1 < 2 ^ 63 → length size ≡ length left → Modes mode count
    → Looping deep layout start end from mode count s before 0 count (tally 0 false false) left left size (Ok 0) (replicate 64 0) 0 from before
loop-starts deep layout start end from mode count s left size before lent same modes = record {
  walking =
      passed.passed-starts modes (omega arith) (record { kept = none_kept deep (layout_of layout) start s left size same; laid = λ d. none-laid layout start end from before });
  slots = refl;
  room = refl;
  long = refl;
}

module _ {deep : Bool} {layout start end from mode count : ℕ} {s before : List ℕ} {at n : ℕ} {names : Tally} {left₀ left size : List ℕ} {first : Result ℕ FileFault} {rows : List ℕ} {row next : ℕ} {t : List ℕ}
    (w : Looping deep layout start end from mode count s before at n names left₀ left size first rows row next t) where
  pub count_small : names.count < 9223372036854775808
  count_small =
      let x = w.walking.holds.kept.named.counted in
      let y = w.walking.few in
      let z = w.walking.walking.within in
      let d = w.walking.short in omega (arith, x, y, z, d)

  pub still-long : (t' : List ℕ) → length t' ≡ length t → length t' ≡ length before
  still-long t' same = same ∙ w.long

  module _ {x : Entry} (h : EntryIs 30 mode n (Here s at) x) where
    module _ {e : ℕ} (is : x ≡ End e) where
      pub ends-faulty : length s - at < e → e ≡ code (rest mode count 30 s)
      ends-faulty l = (passed.ends-faulty w.walking h is l).0

      pub ends-inside : e ≤ length s - at → at + e ≡ code (rest mode count 30 s)
      ends-inside l = (passed.ends-inside w.walking h is l).0

      pub all-kept : Walked deep (layout_of layout) start mode count s names left size first
      all-kept ps r d = (passed.holds-of-all w.walking h is ps r d).kept

      pub all_laid : deep ≡ true → AllLaid layout start end from mode count s before t
      all_laid f = record { row = row; next = next; are = λ ps r d. (passed.holds-of-all w.walking h is ps r d).laid f }

    module _ {k : ℕ} (is : x ≡ Value k) {e : ℕ} (ended : e ≡ code (item_end 30 (Here s (at + k)))) where
      module _ (l : length s - (at + k) < e) where
        pub value-fails : e ≡ code (rest mode count 30 s)
        value-fails = passed.value-fails w.walking h is ended l

        -- where a value is faulty there are no pairs
        pub none-kept-there : Walked deep (layout_of layout) start mode count s names left size first
        none-kept-there = passed.no_pairs w.walking h is ended l _

        pub none-laid-there : (t' : List ℕ) → deep ≡ true → AllLaid layout start end from mode count s before t'
        none-laid-there t' f = record { row = row; next = next; are = passed.no_pairs w.walking h is ended l _ }

      module _ (l : e ≤ length s - (at + k)) where
        pub turn-fits : Fits w64 (at + k + e)
        turn-fits = record { fits = (let d = w.walking.short in omega (arith, passed.value-inside w.walking h is, l, d)) }

        pub turn-less : length s - (at + k + e) < length s - at
        turn-less = omega (arith, passed.value-inside w.walking h is, passed.goes_on w.walking h is ended l, l)

-- a turn, in the code's terms: the value at `at + k`, which takes e bytes, is judged as v
module _ {deep : Bool} {layout start end from mode count : ℕ} {s before : List ℕ} {at n : ℕ} {names : Tally} {left₀ left size : List ℕ} {first : Result ℕ FileFault} {rows : List ℕ} {row next : ℕ} {t : List ℕ}
    (w : Looping deep layout start end from mode count s before at n names left₀ left size first rows row next t) {x : Entry} (h : EntryIs 30 mode n (Here s at) x) {k : ℕ} (is : x ≡ Value k)
    {e : ℕ} (ended : e ≡ code (item_end 30 (Here s (at + k)))) (l : e ≤ length s - (at + k)) where
  pub loops-on : (v : Result ℕ ObjectFault) → OneIs deep (layout_of layout) (Here s (at + k)) start v
      → {t' : List ℕ} → (deep ≡ true → WholePut layout (Here s at) (Here s (at + k)) start end names.count row next t t') → length t' ≡ length t
      → {rows' : List ℕ} → length rows' ≡ length rows → {first' : Result ℕ FileFault} → Keeps v names.count first first'
      → {row' : ℕ} → (row + object_width ≤ length t' → row' ≡ row + object_width) → {next' : ℕ} → Beyond v next (length t') next'
      → {names' : Tally} {left' size' : List ℕ} → Noted (Here s at) names left size names' left' size'
      → Looping deep layout start end from mode count s before (at + k + e) (n - 2) names' left₀ left' size' first' rows' row' next' t'
  loops-on v judged put same room keeps further beyond noted =
      let inside = passed.value-inside w.walking h is in
      record {
        walking = passed.one-more-lent w.walking h is ended l (λ done p key value so. record {
          kept = record {
            named = noted.1 s at (omega (arith, inside)) (part_to_end s at) done 29 p _ key so.kept.named;
            judged = keeps deep (layout_of layout) start done p _ _ value judged so.kept.named.counted so.kept.judged;
          };
          laid = λ d. one-more-laid layout start (Here s at) (Here s (at + k)) w.long (put d) same further (onward layout start (Here s (at + k)) next d v judged beyond) p key value so.kept.named.counted (so.laid d);
        });
        slots = noted.0 ∙ w.slots;
        room = room ∙ w.room;
        long = same ∙ w.long;
      }
