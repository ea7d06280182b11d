-- A turn of the loop over the entries of a `components` map: what was noted of the pairs passed, and of one more.
use Prim.Native.Nat.{ℕ, ◌+◌, ◌-◌, ◌*◌, ◌^◌, ◌≤◌, ◌<◌}
use native.Mathlib.Omega.{arith}
use mathlib.Core.List.{List, []}
use mathlib.Core.Bool.{false}
use mathlib.Core.Path.{◌≡◌, refl, sym, ◌∙◌}
use lib.ListN.{length}
use mir.Val.{Fits}
use mir.Syntax.{w64}
use borrow.Author.Rules.{part_to_end}
use Rattle.meaning.specs.Columns.{component_width}
use Rattle.meaning.specs.Tree.{Pair}
use Rattle.meaning.specs.Layouts.{layout_of}
use Rattle.cbor.specs.Ending.{FAULT, code, item_end, rest}
use Rattle.walk.specs.Reading.{Ends}
use Rattle.walk.specs.Places.{EntryIs, Modes}
use Rattle.walk.specs.declared.Entry.{Entry}
use Rattle.walk.specs.declared.Entry.TheVariants.{End, Value}
use Rattle.walk.proofs.Passed as passed
use Rattle.walk.proofs.Passed.{Here, Passed}
use Rattle.component.specs.Value.{given}
use Rattle.component.specs.Verdict.{ComponentIs}
use Rattle.component.specs.declared.Judged.{Judged}
use Rattle.naming.specs.NotedNames.{tally, Noted}
use Rattle.naming.specs.declared.Tally.{Tally}
use Rattle.naming.proofs.NameNoted.{none-noted}
use Rattle.formats.specs.Parts.{part_rows}
use Rattle.table.specs.Given.{Given, offered}
use Rattle.table.specs.Row.{RowPut}
use Rattle.table.specs.Rows.{Rowed, AllRowed}
use Rattle.table.specs.declared.Place.{Place}
use Rattle.table.proofs.RowLoop.{none-rowed, one-more-rowed}
use Rattle.components.specs.Firsts.{entries, Keeps, Kept, Walked}
use Rattle.std.specs.Prelude.{Ok, Result}
use Rattle.numbers.specs.declared.fault.ObjectFault.{ObjectFault}
use Rattle.numbers.specs.declared.refusal.Refusal.{Refusal}

none_kept : (g : Given) (start : ℕ) (s left size rows : List ℕ) → length size ≡ length left → Kept g start s (tally 0 false false) left size (Ok tt) rows []
unfolding entries part_rows
none_kept g start s left size rows e = record { named = none-noted s left size e; judged = λ f is has. ([], refl, record { are = λ l. refl }) }

-- what was noted of the pairs passed, and the table
pub record SoFar (g : Given) (start : ℕ) (to : Place) (s : List ℕ) (names : Tally) (left size : List ℕ) (first : Result (Unit {0}) ObjectFault) (rows before : List ℕ) (next : ℕ) (t : List ℕ) (done : List (Pair Ends)) : Type 0 where
  pub kept : Kept g start s names left size first rows done
  pub rowed : Rowed g start to.end to.owner to.from before next t done

-- up to `at`, with n items due
pub record Looping (g : Given) (start : ℕ) (to : Place) (mode count : ℕ) (s before : List ℕ) (at n : ℕ) (names : Tally) (left size : List ℕ) (first : Result (Unit {0}) ObjectFault) (rows : List ℕ) (next : ℕ) (t : List ℕ) : Type 0 where
  pub walking : Passed 28 mode count s at n (SoFar g start to s names left size first rows before next t)
  pub slots : length left ≡ 16
  pub room : length rows ≡ 64
  pub long : length t ≡ length before

pub loop-starts : {g : Given} {start : ℕ} {to : Place} {mode count : ℕ} {s before left size rows : List ℕ}
    → length left ≡ 16 → length size ≡ 16 → length rows ≡ 64 → Modes mode count → length s * 1 < 2 ^ 63
    → Looping g start to mode count s before 0 count (tally 0 false false) left size (Ok tt) rows to.from before
loop-starts slots sizes room modes lent = record {
  walking = passed.passed-starts modes (omega arith) (record { kept = none_kept _ _ _ _ _ _ (sizes ∙ sym slots); rowed = none-rowed _ _ _ _ _ _ });
  slots = slots;
  room = room;
  long = refl;
}

module _ {g : Given} {start : ℕ} {to : Place} {mode count : ℕ} {s before : List ℕ} {at n : ℕ} {names : Tally} {left size : List ℕ} {first : Result (Unit {0}) ObjectFault} {rows : List ℕ} {next : ℕ} {t : List ℕ}
    (w : Looping g start to mode count s before at n names left size first rows next t) where
  pub at-inside : at ≤ length s
  at-inside = w.walking.walking.within

  -- the names so far are no more than the bytes passed
  pub few-names : names.count < FAULT
  few-names =
      let x = w.walking.holds.kept.named.counted in let y = w.walking.few in let z = w.walking.walking.within in let d = w.walking.short in
      omega arith

  module _ {x : Entry} (h : EntryIs 28 mode n (Here s at) x) where
    module _ {e : ℕ} (is : x ≡ End e) where
      pub ends-inside : e ≤ length s - at → at + e ≡ code (rest mode count 28 s)
      ends-inside l = (passed.ends-inside w.walking h is l).0

      pub ends-faulty : length s - at < e → e ≡ code (rest mode count 28 s)
      ends-faulty l = (passed.ends-faulty w.walking h is l).0

      pub all-kept : Walked g start mode count s names left size first rows
      all-kept ps r d = (passed.holds-of-all w.walking h is ps r d).kept

      pub all-rowed : AllRowed g start to.end to.owner to.from mode count s before t
      all-rowed = record { next = next; are = λ ps r d. (passed.holds-of-all w.walking h is ps r d).rowed }

    -- where a value is faulty there are no pairs
    module _ {k : ℕ} (is : x ≡ Value k) {e : ℕ} (ended : e ≡ code (item_end 28 (Here s (at + k)))) (l : length s - (at + k) < e) where
      pub no-pairs-kept : Walked g start mode count s names left size first rows
      no-pairs-kept = passed.no_pairs w.walking h is ended l _

      pub no-pairs-rowed : AllRowed g start to.end to.owner to.from mode count s before t
      no-pairs-rowed = record { next = next; are = passed.no_pairs w.walking h is ended l _ }

-- a turn, in the code's terms: the value at `at + k`, which takes e bytes, is judged as v
module _ {g : Given} {start : ℕ} {to : Place} {mode count : ℕ} {s before : List ℕ} {at n : ℕ} {names : Tally} {left size : List ℕ} {first : Result (Unit {0}) ObjectFault} {rows : List ℕ} {next : ℕ} {t : List ℕ}
    (w : Looping g start to mode count s before at n names left size first rows next t) {x : Entry} (h : EntryIs 28 mode n (Here s at) x) {k : ℕ} (is : x ≡ Value k)
    {e : ℕ} (ended : e ≡ code (item_end 28 (Here s (at + k)))) (l : e ≤ length s - (at + k)) where
  pub next_fits : Fits w64 (at + k + e)
  next_fits = let y = passed.next-inside w.walking h is ended l in let z = w.walking.short in record { fits = omega arith }

  pub loops-on : (v : Result Judged Refusal) → ComponentIs (layout_of g.layout) (given g.code) (Here s (at + k)) start v
      → {first' : Result (Unit {0}) ObjectFault} {rows' : List ℕ} → length rows' ≡ 64 → ((code : ℕ) → Keeps (offered g.layout g.format code) (Here s at) (Here s (at + k)) v names.count first rows first' rows')
      → {t' : List ℕ} → RowPut g.layout g.format (Here s at) (Here s (at + k)) v e to.end to.owner next t t' → length t' ≡ length t
      → {next' : ℕ} → (next + component_width ≤ length t' → next' ≡ next + component_width)
      → {names' : Tally} {left' size' : List ℕ} → Noted (Here s at) names left size names' left' size'
      → Looping g start to mode count s before (at + k + e) (n - 2) names' left' size' first' rows' next' t'
  loops-on v judged room keeps put same further noted =
      let inside = passed.value-inside w.walking h is in
      record {
        walking = passed.one-more-lent w.walking h is ended l (λ done p key value so. record {
          kept = record {
            named = noted.1 s at (omega (arith, inside)) (part_to_end s at) done 27 p _ key so.kept.named;
            judged = keeps g.code start done p 27 _ _ key value judged so.kept.named.counted so.kept.judged;
          };
          rowed = one-more-rowed g start (Here s at) (Here s (at + k)) w.long v judged ended put same further p key value so.rowed;
        });
        slots = noted.0 ∙ w.slots;
        room = room;
        long = same ∙ w.long;
      }
