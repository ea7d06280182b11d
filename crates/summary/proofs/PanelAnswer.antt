-- The panel's answer, from the account's and the second reading's.
use Prim.Native.Nat.{ℕ}
use native.Mathlib.Omega.{arith}
use mathlib.Core.List.{List}
use mathlib.Core.Bool.{Bool, true, false, cond}
use mathlib.Core.Path.{◌≡◌, refl, sym, ap, ◌∙◌, subst}
use lib.ListN.{length, replicate, length-replicate}
use lib.Dec.{leb}
use Rattle.meaning.specs.Check.{Check, pass, refuse, ◌>>=◌}
use Rattle.meaning.specs.Refusal.{ROOM}
use Rattle.meaning.specs.Layouts.{Layout, layout_of}
use Rattle.meaning.specs.Frame.{Reading}
use Rattle.meaning.specs.Rows.{component_count, answer, table_after, read_into}
use Rattle.meaning.specs.Listing.{listing}
use Rattle.reader.specs.declared.into.Answer.{Answer}
use Rattle.reader.specs.Answer.{answered}
use Rattle.frame.proofs.Frames.{size_back_lem}
use Rattle.shown.proofs.AfterReading.{read-zero, read-listing}
use Rattle.account.specs.Account.{accounted, frame_bytes, manifest_bytes, inside_bytes, between_bytes}
use Rattle.account.specs.declared.Bytes.{Bytes}
use Rattle.panel.specs.declared.Listed.{Listed}
use Rattle.panel.specs.Lines.{sound, listed}
use Rattle.panel.specs.Summary.{summary_text, summarised, bytes_line}
use Rattle.panel.specs.ListedText as panel
use Rattle.panel.proofs.Answers.{all-summarised}
use Rattle.summary.specs.Panel.{panel_text, shown, told}
use Rattle.summary.specs.declared.Panel.{Panel}

-- what is listed has sound rows
sound-of : (file table : List ℕ) (objects components : ℕ) (t : List ℕ) → listed file table objects components ≡ pass t → true ≡ sound file table objects components
unfolding listed
sound-of file table objects components t e = by (sound file table objects components) refl
  where
    by : (b : Bool) → sound file table objects components ≡ b → true ≡ b
    by true h = refl
    by false h = absurd (let z : ◌≡◌ {A = ℕ} 0 1 = cc in omega arith)

-- the numbers of the account and of a reading are one
pub number_same : (L : Layout) (file : List ℕ) (k : Check Reading) → (accounted L file k).number ≡ (answer k).number
unfolding accounted answer
number_same L file (pass r) = refl
number_same L file (refuse n o c) = refl

module _ (L : Layout) (file work : List ℕ) (b : Bytes) (e : b ≡ accounted L file (read_into L file (length work))) where
  -- refused
  pub refused : (text : ℕ) → (b.number ≡ 0 → ⊥)
      → ◌≡◌ {A = Panel} (record { number = b.number; object = b.object; component = b.component; length = 0 }) (told (shown L file (length work)) text)
  unfolding shown
  refused text h = by (read_into L file (length work)) e
    where
      by : (k : Check Reading) → b ≡ accounted L file k
          → ◌≡◌ {A = Panel} (record { number = b.number; object = b.object; component = b.component; length = 0 }) (told (k >>= λ r. pass (panel_text L file (length work) r)) text)
      by (pass r) f = absurd (h (unfold accounted in ap (λ (x : Bytes). x.number) f))
      by (refuse n o c) f = unfold accounted told in rw f refl

  pub refused-text : (text : List ℕ) → (b.number ≡ 0 → ⊥) → text ≡ panel.text_after (shown L file (length work)) text
  unfolding shown
  refused-text text h = by (read_into L file (length work)) e
    where
      by : (k : Check Reading) → b ≡ accounted L file k → text ≡ panel.text_after (k >>= λ r. pass (panel_text L file (length work) r)) text
      by (pass r) f = absurd (h (unfold accounted in ap (λ (x : Bytes). x.number) f))
      by (refuse n o c) f = unfold panel.text_after in refl

-- ---- accepted

told-pass : (t : List ℕ) (n : ℕ)
    → ◌≡◌ {A = Panel} (record { number = (panel.told (pass t) n).number; object = 0; component = 0; length = (panel.told (pass t) n).length }) (told (pass t) n)
unfolding told panel.told
told-pass t n = by (leb (length t) n)
  where
    by : (b : Bool)
        → ◌≡◌ {A = Panel}
        (record {
          number = (cond {A = Listed} b (record { number = 0; length = length t }) (record { number = ROOM; length = 0 })).number;
          object = 0;
          component = 0;
          length = (cond {A = Listed} b (record { number = 0; length = length t }) (record { number = ROOM; length = 0 })).length;
        })
        (cond b (record { number = 0; object = 0; component = 0; length = length t }) (record { number = ROOM; object = 0; component = 0; length = 0 }))
    by true = refl
    by false = refl

abbrev summary : List ℕ → Bytes → List ℕ → Answer → Check (List ℕ)
summary file b table a = summarised file table a.objects a.components (bytes_line b.frame b.manifest b.inside b.between)

module _ (layout : ℕ) (file work zeros table : List ℕ) (b : Bytes) (a : Answer) (e : b ≡ accounted (layout_of layout) file (read_into (layout_of layout) file (length work)))
    (w : zeros ≡ replicate (length work) 0) (f : a ≡ answered (read_into (layout_of layout) file (length zeros)))
    (g : table ≡ table_after zeros (read_into (layout_of layout) file (length zeros))) (z : b.number ≡ 0) where
  abbrev L : Layout
  L = layout_of layout

  found : (r : Reading) × (read_into L file (length work) ≡ pass r)
  found = read-zero L file (length work) (size_back_lem layout) (sym (number_same L file (read_into L file (length work))) ∙ sym (ap (λ (x : Bytes). x.number) e) ∙ z)

  abbrev r : Reading
  r = found.0

  reads : read_into L file (length work) ≡ pass r
  reads = found.1

  as_long : length zeros ≡ length work
  as_long = ap length w ∙ length-replicate (length work) 0

  again : read_into L file (length zeros) ≡ pass r
  again = ap (read_into L file) as_long ∙ reads

  sound-rows : true ≡ sound file (table_after zeros (pass r)) (length r.model.objects) (component_count r.model.objects)
  unfolding answer
  sound-rows =
      sound-of file (table_after zeros (pass r)) (length r.model.objects) (component_count r.model.objects) (listing r.model)
      (subst (λ (k : Check Reading). listed file (table_after zeros k) (answer k).objects (answer k).components ≡ pass (listing r.model)) again (read-listing L (size_back_lem layout) file zeros r again))

  abbrev last : List ℕ
  last = bytes_line (frame_bytes L file r) (manifest_bytes L file r) (inside_bytes L file r) (between_bytes L file r)

  of-reading : summary file b table a ≡ summarised file (table_after zeros (pass r)) (length r.model.objects) (component_count r.model.objects) last
  unfolding accounted answer
  of-reading =
      ap (λ (x : Bytes). summary file x table a) (e ∙ ap (accounted L file) reads)
      ∙ ap (λ (x : List ℕ). summary file (accounted L file (pass r)) x a) (g ∙ ap (table_after zeros) again)
      ∙ ap (λ (x : Answer). summary file (accounted L file (pass r)) (table_after zeros (pass r)) x) (f ∙ ap answered again)

  text-is : summary file b table a ≡ pass (panel_text L file (length work) r)
  unfolding panel_text
  text-is =
      of-reading ∙ all-summarised file (table_after zeros (pass r)) (length r.model.objects) (component_count r.model.objects) last sound-rows
      ∙ ap (λ (x : List ℕ). pass (summary_text file (table_after x (pass r)) (length r.model.objects) (component_count r.model.objects) last)) w

  shown-is : shown L file (length work) ≡ pass (panel_text L file (length work) r)
  unfolding shown
  shown-is = ap (λ (k : Check Reading). k >>= λ r. pass (panel_text L file (length work) r)) reads

  pub answer-is : (t : Listed) (n : ℕ) → t ≡ panel.told (summary file b table a) n
      → ◌≡◌ {A = Panel} (record { number = t.number; object = 0; component = 0; length = t.length }) (told (shown L file (length work)) n)
  answer-is t n h =
      ap (λ (x : Listed). record { number = x.number; object = 0; component = 0; length = x.length }) (h ∙ ap (λ (s : Check (List ℕ)). panel.told s n) text-is)
      ∙ told-pass (panel_text L file (length work) r) n ∙ ap (λ (s : Check (List ℕ)). told s n) (sym shown-is)

  pub written_is : {after : List ℕ} (before : List ℕ) → after ≡ panel.text_after (summary file b table a) before → after ≡ panel.text_after (shown L file (length work)) before
  written_is before h = h ∙ ap (λ (s : Check (List ℕ)). panel.text_after s before) (text-is ∙ sym shown-is)
