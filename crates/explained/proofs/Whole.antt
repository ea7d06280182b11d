-- The reader's refusal of a manifest, and of a file, is the first check that is not right.
use Prim.Native.Nat.{ℕ, suc, ◌+◌, ◌-◌, ◌*◌, ◌/◌, ◌%◌}
use mathlib.Core.List.{List, [], ◌∷◌, ◌++◌, map}
use mathlib.Core.Bool.{Bool, true, false, cond, ◌&&◌}
use mathlib.Core.Option.{Option, none, some}
use mathlib.Core.Path.{◌≡◌, refl}
use lib.ListN.{length, get_or, take, drop}
use lib.Dec.{eqb, leb}
use Rattle.meaning.specs.Tree.{Node, note_of}
use Rattle.meaning.specs.Check.{Check, pass, refuse, ◌>>=◌, ◌>>◌, ◌unless◌, in_component, required_in, each}
use Rattle.meaning.specs.Text.{ascii, same}
use Rattle.meaning.specs.Refusal.{SHORT, HEADER, FOOTER, BIG, FIT, ALIGN, BOUNDS, RANK, ROLE, LENGTH, ROOM}
use Rattle.meaning.specs.Limit.{manifest_limit, object_limit, component_limit, alignment}
use Rattle.meaning.specs.Model.{Named}
use Rattle.meaning.specs.Kind.{present}
use Rattle.meaning.specs.Layouts.{Layout, magic}
use Rattle.meaning.specs.Field.{is_some, field, names, root_fields, object_fields, component_fields}
use Rattle.meaning.specs.Types.{width_of, product}
use Rattle.meaning.specs.Format.{Part, Role, unit, role, plain, index_role, long, multiple, elements, whole_of, whole, indexed, dense, sparse_csr, sparse_coo, quantized_group, format_rules}
use Rattle.meaning.specs.Judge.{or_else, inherited, part, component, components_of, object, objects_of, judge}
use Rattle.meaning.specs.Read.{Outcome, got, refused}
use Rattle.meaning.specs.Frame.{little, frame, checked, reading}
use Rattle.meaning.specs.Rows.{room_for, roomy, read_into}
use Rattle.explained.specs.Step
use Rattle.explained.specs.Step.{Step, ◌at◌unless◌, told, given, passes, every, each_of}
use Rattle.explained.specs.Order.{missing, missing_in, component_steps, components_steps, length_note, of_role, role_steps, plain_steps, length_steps, dense_steps, csr_steps, coo_steps, group_steps, format_steps, all_of, object_steps, objects_steps, manifest_steps}
use Rattle.explained.specs.Fields
use Rattle.explained.specs.Lengths.{elements_fit, whole_fits, indices_fit}
use Rattle.explained.specs.Explain.{span, frame_steps, read_steps, root, file_steps, room_steps}
use Rattle.explained.proofs.Agree.{Agree, agree_at, agree-nothing, agree_then, agree-bind, agree-given, agree-shape, agree-end, agree-required, agree-found, agree-optional, agree-each, agree-in_component, agree-in_object}
use Rattle.explained.proofs.Parts.{agree-number, agree-text, agree-dtype, agree-type, agree-raw, agree-attributes, agree-version, agree-shape_of, agree-in-fields, agree-names}

-- binding what a run of checks hands on
module _ {A B C : Type 0} where
  kept-bind : (p : A → Check C) (k : A → Check B) (m : Check A) → ((m >>= λ a. p a >> pass a) >>= k) ≡ (m >>= λ a. p a >> k a)
  kept-bind p k (pass a) = go (p a)
    where
      go : (m : Check C) → ((m >> pass a) >>= k) ≡ (m >> k a)
      go (pass c) = refl
      go (refuse n o c) = refl
  kept-bind p k (refuse n o c) = refl

agree-cond : {P A : Type 0} (b : Bool) {s r : List (Step P)} {m k : Check A} → Agree s m → Agree r k → Agree (cond b s r) (cond b m k)
agree-cond true e f = e
agree-cond false e f = f

-- a dtype that must be there where the layout has one
agree-required_in : {P B : Type 0} (t : Node P) (name : Option (List ℕ)) (v : Option (Node P)) {r : List (Step P)} (k : Option (Node P) → Check B)
    → Agree r (k v) → Agree (missing_in name t v ++ r) (required_in name v >>= k)
unfolding missing_in missing is_some
agree-required_in t none v k e = e
agree-required_in t (some n) none k e = record { same = refl }
agree-required_in t (some n) (some a) k e = record { same = e.same }

module _ (L : Layout) {P : Type 0} where
  -- ---------------------------------------------------------------- a component

  pub agree-component : (start : ℕ) (above : Option ℕ) (n : Named P) → Agree (component_steps L start above n) (component L start above n)
  unfolding component_steps component missing component_fields
  agree-component start above n =
      agree-in-fields L.component n.value _ _ λ ps.
      agree-required_in n.value (Fields.dtype_on L Fields.component) (field (Fields.dtype_on L Fields.component) ps) _
      (agree-required (field (Fields.offset_of L) ps) λ offset ho.
      agree-required (field (Fields.length_of L) ps) λ length hl.
      agree-found _ ho
      (agree-found _ hl
      (agree-given (agree-optional (agree-dtype L) (field (Fields.dtype_on L Fields.component) ps)) λ own.
      agree-required (or_else own above) λ d hd.
      agree-found _ hd
      (agree-bind (agree-optional (agree-type d) (present (field (Fields.type_of L) ps))) λ t e.
      agree-given (agree-number offset) λ o.
      agree-given (agree-number length) λ l.
      agree_then (agree-optional agree-number (present (field (Fields.unpacked_of L) ps)))
      (agree_then (agree-optional agree-raw (field (Fields.encoding_of L) ps))
      (agree-bind (agree-optional agree-text (present (field (Fields.digest_of L) ps))) λ g e.
      agree_then (agree_at ALIGN (note_of offset) (eqb (o % alignment) 0))
      (agree-end _ (agree_at BOUNDS (note_of offset) (leb alignment o && leb (o + l) start)))))))))

  pub agree-components : (start : ℕ) (above : List ℕ → Option ℕ) (t : Node P) → Agree (components_steps L start above t) (components_of L start above t)
  unfolding components_steps components_of
  agree-components start above t =
      agree-given (agree-names component_limit t) λ ns.
      agree-each (λ j n. agree-in_component j (some n.name) (agree-component start (above n.name.letters) n)) 0 ns

  -- ---------------------------------------------------------------- the format's rules

  of-role : (w : P) (n : List ℕ) (i : ℕ) (cs : List Part) → Agree (ROLE at w unless passes (role n i cs)) (role n i cs)
  unfolding role
  of-role w n i [] = record { same = refl }
  of-role w n i (c ∷ cs) = go (same n c.called) (of-role w n (suc i) cs)
    where
      go : (b : Bool) → Agree (ROLE at w unless passes (role n (suc i) cs)) (role n (suc i) cs)
          → Agree (ROLE at w unless passes (cond b (pass (record { index = i; part = c })) (role n (suc i) cs)))
          (cond b (pass (record { index = i; part = c })) (role n (suc i) cs))
      go true e = record { same = refl }
      go false e = record { same = e.same }

  module _ (shape_note map_note : P) (shape : List ℕ) (ns : List (Named P)) (cs : List Part) where
    agree-role : (n : List ℕ) → Agree (role_steps L shape_note map_note shape ns cs n) (role n 0 cs)
    unfolding role_steps
    agree-role n = of-role map_note n 0 cs

    agree-plain : (r : Role) → Agree (plain_steps L shape_note map_note shape ns cs r) (in_component r.index (ROLE unless plain r.part))
    unfolding plain_steps of_role
    agree-plain r =
        agree-in_component r.index (get_or (map (λ n. some n.name) ns) r.index none) (agree_at ROLE (get_or (map (λ n. note_of n.value) ns) r.index map_note) (plain r.part))

    agree-length : (r : Role) (b : Bool) → Agree (length_steps L shape_note map_note shape ns cs r b) (in_component r.index (LENGTH unless b))
    unfolding length_steps of_role
    agree-length r b = agree-in_component r.index (get_or (map (λ n. some n.name) ns) r.index none) (agree_at LENGTH (get_or (map (length_note L) ns) r.index map_note) b)

    agree-long : (r : Role) (n : ℕ) → Agree (length_steps L shape_note map_note shape ns cs r (eqb r.part.size n)) (long r n)
    unfolding long
    agree-long r n = agree-length r (eqb r.part.size n)

    agree-multiple : (r : Role) (n : ℕ) → Agree (length_steps L shape_note map_note shape ns cs r (eqb (r.part.size % n) 0)) (multiple r n)
    unfolding multiple
    agree-multiple r n = agree-length r (eqb (r.part.size % n) 0)

    agree-elements : (r : Role) (n : ℕ) (u : Option ℕ) → Agree (length_steps L shape_note map_note shape ns cs r (elements_fit r.part n u)) (elements r n u)
    unfolding elements_fit elements
    agree-elements r n none = agree-multiple r (width_of r.part.code)
    agree-elements r n (some u) = agree-long r (n * u)

    agree-whole_of : (r : Role) (u : Option ℕ) → Agree (length_steps L shape_note map_note shape ns cs r (whole_fits r.part u)) (whole_of r u)
    unfolding whole_fits whole_of
    agree-whole_of r none = agree-end none (agree-multiple r (width_of r.part.code))
    agree-whole_of r (some u) = agree-end (some (r.part.size / u)) (agree-multiple r u)

    agree-whole : (r : Role) → Agree (length_steps L shape_note map_note shape ns cs r (whole_fits r.part (unit r.part))) (whole r)
    unfolding whole
    agree-whole r = agree-whole_of r (unit r.part)

    agree-indexed : (r : Role) (each : ℕ) (n : Option ℕ) → Agree (length_steps L shape_note map_note shape ns cs r (indices_fit r.part each n)) (indexed r each n)
    unfolding indices_fit indexed
    agree-indexed r each none = agree-multiple r 8
    agree-indexed r each (some n) = agree-long r (each * n)

    agree-dense : Agree (dense_steps L shape_note map_note shape ns cs) (dense shape cs)
    unfolding dense_steps dense
    agree-dense = agree-given (agree-role (ascii "data")) λ d. agree-elements d (product shape) (unit d.part)

    agree-index : {B : Type 0} (n : List ℕ) {rest : Role → List (Step P)} {k : Role → Check B} → ((r : Role) → Agree (rest r) (k r))
        → Agree (role_steps L shape_note map_note shape ns cs n ++ Step.◌>>=◌ (given (role n 0 cs)) (λ r. plain_steps L shape_note map_note shape ns cs r ++ rest r)) (index_role n cs >>= k)
    unfolding index_role
    agree-index n {rest} {k} f =
        rw (kept-bind (λ r. in_component r.index (ROLE unless plain r.part)) k (role n 0 cs))
        (agree-given (agree-role n) λ r. agree_then (agree-plain r) (f r))

    agree-csr : Agree (csr_steps L shape_note map_note shape ns cs) (sparse_csr shape cs)
    unfolding csr_steps sparse_csr
    agree-csr =
        agree_then (agree_at RANK shape_note (eqb (length shape) 2))
        (agree-given (agree-role (ascii "values")) λ values.
        agree-index (ascii "indices") λ indices.
        agree-index (ascii "indptr") λ indptr.
        agree-given (agree-whole values) λ n.
        agree_then (agree-indexed indices 8 n) (agree-long indptr (8 * (get_or shape 0 0 + 1))))

    agree-coo : Agree (coo_steps L shape_note map_note shape ns cs) (sparse_coo shape cs)
    unfolding coo_steps sparse_coo
    agree-coo =
        agree-given (agree-role (ascii "values")) λ values.
        agree-index (ascii "coords") λ coords.
        agree-given (agree-whole values) λ n.
        agree-indexed coords (8 * length shape) n

    agree-group : Agree (group_steps L shape_note map_note shape ns cs) (quantized_group shape cs)
    unfolding group_steps quantized_group
    agree-group = agree_then (agree-role (ascii "packed_weight")) (agree_then (agree-role (ascii "scales")) (agree-end tt (agree-role (ascii "zeros"))))

    agree-format : (f : List ℕ) → Agree (format_steps L shape_note map_note shape ns cs f) (format_rules f shape cs)
    unfolding format_steps format_rules
    agree-format f =
        agree-cond (same (ascii "dense") f) agree-dense
        (agree-cond (same (ascii "sparse_csr") f) agree-csr
        (agree-cond (same (ascii "sparse_coo") f) agree-coo
        (agree-cond (same (ascii "quantized_group") f) agree-group
        (agree-nothing tt))))

  -- ---------------------------------------------------------------- objects, the root

  pub agree-object : (start : ℕ) (n : Named P) → Agree (object_steps L start n) (object L start n)
  unfolding object_steps object missing object_fields
  agree-object start n =
      agree-in-fields L.object n.value _ _ λ ps.
      agree-required_in n.value (Fields.dtype_on L Fields.object) (field (Fields.dtype_on L Fields.object) ps) _
      (agree-required (field (Fields.shape_field L) ps) λ shape hs.
      agree-required (field (Fields.format_of L) ps) λ format hf.
      agree-required (field (Fields.components_field L) ps) λ components hc.
      agree-found _ hs
      (agree-found _ hf
      (agree-found _ hc
      (agree-given (agree-optional (agree-dtype L) (field (Fields.dtype_on L Fields.object) ps)) λ d.
      agree-given (agree-shape_of shape) λ s.
      agree-given (agree-text format) λ f.
      agree-bind (agree-optional agree-attributes (field (Fields.attributes_on L Fields.object) ps)) λ a e.
      agree-given (agree-components start (inherited f.letters d) components) λ cs.
      agree-end _ (agree-format (note_of shape) (note_of components) s (all_of (names component_limit components)) (map part cs) f.letters)))))

  pub agree-objects : (start : ℕ) (t : Node P) → Agree (objects_steps L start t) (objects_of L start t)
  unfolding objects_steps objects_of
  agree-objects start t =
      agree-given (agree-names object_limit t) λ ns.
      agree-each (λ i n. agree-in_object i (some n.name) (agree-object start n)) 0 ns

  pub agree-manifest : (start : ℕ) (t : Node P) → Agree (manifest_steps L start t) (judge L start t)
  unfolding manifest_steps judge missing root_fields
  agree-manifest start t =
      agree-in-fields L.root t _ _ λ ps.
      agree-required (field (Fields.version_of L) ps) λ version hv.
      agree-found _ hv
      (agree_then (agree-version version)
      (agree-bind (agree-optional agree-attributes (field (Fields.attributes_on L Fields.root) ps)) λ a e.
      agree-required (field (Fields.objects_field L) ps) λ objects ho.
      agree-found _ ho (agree-shape _ (agree-objects start objects))))

-- ---------------------------------------------------------------- the file

pub agree-read : {A : Type 0} (end : ℕ) (o : Outcome A) → Agree (read_steps end o) (checked o)
unfolding read_steps checked
agree-read end (got a s) = agree-nothing a
agree-read end (refused n s) = record { same = refl }

module _ (L : Layout) where
  pub agree-frame : (file : List ℕ) → Agree (frame_steps L file) (frame L file)
  unfolding frame_steps frame
  agree-frame file =
      agree_then (agree_at SHORT _ (leb L.least (length file)))
      (agree_then (agree_at HEADER _ (same magic (take 8 file)))
      (agree_then (agree_at FOOTER _ (same L.footer (drop (length file - length L.footer) file)))
      (agree_then (agree_at BIG _ (leb (little (take 8 (drop (length file - L.size_back) file))) manifest_limit))
      (agree-end _ (agree_at FIT _ (leb 1 (little (take 8 (drop (length file - L.size_back) file))) && leb (little (take 8 (drop (length file - L.size_back) file))) (length file - L.least)))))))

  pub agree-reading : (file : List ℕ) → Agree (file_steps L file) (reading L file)
  unfolding file_steps reading root
  agree-reading file =
      agree-given (agree-frame file) λ f.
      agree-given (agree-read (f.start + f.size) (root file f)) λ t.
      agree-shape _ (agree-manifest L f.start t)

  pub agree-read_into : (room : ℕ) (file : List ℕ) → Agree (room_steps L room file) (read_into L file room)
  unfolding room_steps read_into roomy
  agree-read_into room file = agree-given (agree-reading file) λ r. agree-end r (agree_at ROOM (span 0 0) (leb (room_for r.model) room))
