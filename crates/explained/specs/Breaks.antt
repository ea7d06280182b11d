-- Request 08, "it must be true": what it means that a check breaks at a place of the tree, number by number. Nothing here says in which order anything is looked at.
use Rattle.std.specs.Prelude.{ℕ, suc, ◌+◌, ◌*◌, ◌%◌, List, [], ◌∷◌, ◌++◌, map, Bool, true, false, not, ◌&&◌, ◌≡◌, length, get_or, eqb, leb}
use Rattle.std.proofs.Math.Option.{Option, none, some}
use Rattle.meaning.specs.Tree.{Node, Pair, note_of}
use Rattle.meaning.specs.Check.{pass, optional, each}
use Rattle.meaning.specs.Text.{ascii, same, one_of, distinct, all, utf8}
use Rattle.meaning.specs.Version.{version_shape, major_one}
use Rattle.meaning.specs.Refusal.{KIND, KEY, TEXT, TWICE, MISSING, VERSION, MAJOR, COUNT, DTYPE, ENCODING, TYPE, ALIGN, BOUNDS, RANK, ROLE, LENGTH}
use Rattle.meaning.specs.Limit.{object_limit, component_limit, rank_limit, alignment}
use Rattle.meaning.specs.Model.{Word, Named, Component}
use Rattle.meaning.specs.Kind.{a_number, a_word, a_list, a_mapping, present}
use Rattle.meaning.specs.Layouts.{Layout, somes}
use Rattle.meaning.specs.Field.{is_some, key_of, count, field, name_of, names}
use Rattle.meaning.specs.Types.{code_from, logicals, listed, fits_over, product}
use Rattle.meaning.specs.Format.{Part, Role, unit, role, plain}
use Rattle.meaning.specs.Judge.{inherited, a_dtype, part, components_of}
use Rattle.explained.specs.Fields.{Level, root, object, component, known, dtype_on, attributes_on, version_of, objects_field, shape_field, format_of, components_field, type_of, offset_of, length_of, unpacked_of, encoding_of, digest_of}
use Rattle.explained.specs.Lengths.{elements_fit, whole_fits, counted, indices_fit}
use Rattle.explained.specs.Step.{passes}

-- ---------------------------------------------------------------- document 01's table of fields

-- what a known value is asked to be; explicit null counts as absent where `null` says so
pub data Asked : Type 0 where
  number word list mapping : Asked

pub record Entry : Type 0 where
  pub called : Option (List ℕ)
  pub asked : Asked
  pub needed : Bool
  pub null : Bool

abbrev pub entry : Option (List ℕ) → Asked → Bool → Bool → Entry
entry n a r o = record { called = n; asked = a; needed = r; null = o }

-- a dtype is needed where the layout has one
unfoldable pub entries : Layout → Level → List Entry
entries L root = entry (version_of L) word true false ∷ entry (attributes_on L root) mapping false false ∷ entry (objects_field L) mapping true false ∷ []
entries L object =
    entry (dtype_on L object) word (is_some (dtype_on L object)) false ∷ entry (shape_field L) list true false ∷ entry (format_of L) word true false
    ∷ entry (attributes_on L object) mapping false false ∷ entry (components_field L) mapping true false ∷ []
entries L component =
    entry (dtype_on L component) word (is_some (dtype_on L component)) false ∷ entry (type_of L) word false true ∷ entry (offset_of L) number true false
    ∷ entry (length_of L) number true false ∷ entry (unpacked_of L) number false true ∷ entry (encoding_of L) word false false ∷ entry (digest_of L) word false true ∷ []

-- the roles that a format needs, and those of them that are indices
unfoldable pub roles : List (List ℕ × List (List ℕ) × List (List ℕ))
roles =
    (ascii "dense", ascii "data" ∷ [], [])
    ∷ (ascii "sparse_csr", ascii "values" ∷ ascii "indices" ∷ ascii "indptr" ∷ [], ascii "indices" ∷ ascii "indptr" ∷ [])
    ∷ (ascii "sparse_coo", ascii "values" ∷ ascii "coords" ∷ [], ascii "coords" ∷ [])
    ∷ (ascii "quantized_group", ascii "packed_weight" ∷ ascii "scales" ∷ ascii "zeros" ∷ [], [])
    ∷ []

pub data Among {A : Type 0} (a : A) : List A → Type 0 where
  here : {l : List A} → Among a (a ∷ l)
  there : {b : A} {l : List A} → Among a l → Among a (b ∷ l)

-- the element j of a list, its elements counted from i
pub data At {A : Type 0} (j : ℕ) (a : A) : ℕ → List A → Type 0 where
  first : {l : List A} → At j a j (a ∷ l)
  later : {i : ℕ} {b : A} {l : List A} → At j a (suc i) l → At j a i (b ∷ l)

module _ {P : Type 0} where
  unfoldable pub is : Asked → Node P → Bool
  is number t = passes (a_number t)
  is word t = passes (a_word t)
  is list t = passes (a_list t)
  is mapping t = passes (a_mapping t)

  -- ---------------------------------------------------------------- places of the tree

  -- a field of a map
  pub record Field (m : Node P) (name : Option (List ℕ)) (v : Node P) : Type 0 where
    pub pairs : List (Pair P)
    pub is_map : a_mapping m ≡ pass pairs
    pub value : field name pairs ≡ some v

  -- what stands under a name, the i-th
  pub record Under (limit : ℕ) (m : Node P) (i : ℕ) (n : Named P) : Type 0 where
    pub every : List (Named P)
    pub sound : names limit m ≡ pass every
    pub this : At i n 0 every

module _ (L : Layout) {P : Type 0} where
  -- a map with known fields: the root, the object i, the component j of it
  pub data Holder (t : Node P) : Level → ℕ → ℕ → Node P → Type 0 where
    the_root : Holder t root 0 0 t
    an_object : {os : Node P} {i : ℕ} {n : Named P} → Field t (objects_field L) os → Under object_limit os i n → Holder t object i 0 n.value
    a_component : {m cs : Node P} {i j : ℕ} {n : Named P} → Holder t object i 0 m → Field m (components_field L) cs → Under component_limit cs j n
        → Holder t component i j n.value

  -- a map of names, with its limit
  pub data Names (t : Node P) : ℕ → ℕ → Node P → Type 0 where
    of_objects : {os : Node P} → Field t (objects_field L) os → Names t object_limit 0 os
    of_components : {m cs : Node P} {i : ℕ} → Holder t object i 0 m → Field m (components_field L) cs → Names t component_limit i cs

  -- an item in a known place, and what it is asked to be
  pub data Known (t : Node P) : ℕ → ℕ → Asked → Node P → Type 0 where
    holder : {l : Level} {i j : ℕ} {m : Node P} → Holder t l i j m → Known t i j mapping m
    in_field : {l : Level} {i j : ℕ} {m v : Node P} (e : Entry) → Among e (entries L l) → e.null ≡ false → Holder t l i j m → Field m e.called v → Known t i j e.asked v
    nullable : {l : Level} {i j : ℕ} {m v : Node P} (e : Entry) → Among e (entries L l) → e.null ≡ true → Holder t l i j m → Field m e.called v → present (some v) ≡ some v
        → Known t i j e.asked v

  -- a text that must be UTF-8
  pub data Text (t : Node P) : ℕ → ℕ → Node P → Type 0 where
    of_format : {i : ℕ} {m v : Node P} → Holder t object i 0 m → Field m (format_of L) v → Text t i 0 v
    of_type : {i j : ℕ} {m v : Node P} → Holder t component i j m → Field m (type_of L) v → Text t i j v
    of_digest : {i j : ℕ} {m v : Node P} → Holder t component i j m → Field m (digest_of L) v → Text t i j v

  -- the object i, judged as far as its format's rules: format, shape, its map of components, what stands there, and what the rules look at
  pub record Ruled (start : ℕ) (t : Node P) (i : ℕ) (format : List ℕ) (shape : List ℕ) (shape_at cs : Node P) (ps : List Part) : Type 0 where
    pub whole : Node P
    pub holds : Holder t object i 0 whole
    pub word : Word P
    pub format_at : Node P
    pub of_format : Field whole (format_of L) format_at
    pub is_word : a_word format_at ≡ pass word
    pub letters : word.letters ≡ format
    pub of_shape : Field whole (shape_field L) shape_at
    pub dims : List (Node P)
    pub is_list : a_list shape_at ≡ pass dims
    pub is_shape : each (λ k. a_number) 0 dims ≡ pass shape
    pub of_components : Field whole (components_field L) cs
    pub fields : List (Pair P)
    pub is_map : a_mapping whole ≡ pass fields
    pub code : Option ℕ
    pub of_code : optional (a_dtype L) (field (dtype_on L object) fields) ≡ pass code
    pub judged : List (Component P)
    pub are_judged : components_of L start (inherited format code) cs ≡ pass judged
    pub parts : map part judged ≡ ps

-- the length that a format's rule asks of a role
pub data Rule (shape : List ℕ) (ps : List Part) : List ℕ → Role → Bool → Type 0 where
  dense : {d : Role} → role (ascii "data") 0 ps ≡ pass d → Rule shape ps (ascii "dense") d (elements_fit d.part (product shape) (unit d.part))
  csr_whole : {v : Role} → role (ascii "values") 0 ps ≡ pass v → Rule shape ps (ascii "sparse_csr") v (whole_fits v.part (unit v.part))
  csr_indices : {v r : Role} → role (ascii "values") 0 ps ≡ pass v → role (ascii "indices") 0 ps ≡ pass r
      → Rule shape ps (ascii "sparse_csr") r (indices_fit r.part 8 (counted v.part (unit v.part)))
  csr_indptr : {r : Role} → role (ascii "indptr") 0 ps ≡ pass r → Rule shape ps (ascii "sparse_csr") r (eqb r.part.size (8 * (get_or shape 0 0 + 1)))
  coo_whole : {v : Role} → role (ascii "values") 0 ps ≡ pass v → Rule shape ps (ascii "sparse_coo") v (whole_fits v.part (unit v.part))
  coo_coords : {v r : Role} → role (ascii "values") 0 ps ≡ pass v → role (ascii "coords") 0 ps ≡ pass r
      → Rule shape ps (ascii "sparse_coo") r (indices_fit r.part (8 * length shape) (counted v.part (unit v.part)))

-- the check with this number breaks, for this object and component, at what has this annotation
pub data Breaks (L : Layout) {P : Type 0} (start : ℕ) (t : Node P) : ℕ → ℕ → ℕ → P → Type 0 where
  -- 8: what stands in a known place is of another kind; of a shape's elements the leftmost
  kind : {i j : ℕ} {a : Asked} {v : Node P} → Known L t i j a v → is a v ≡ false → Breaks L start t KIND i j (note_of v)
  element : {i : ℕ} {m v : Node P} (left right : List (Node P)) (d : Node P) → Holder L t object i 0 m → Field m (shape_field L) v → a_list v ≡ pass (left ++ d ∷ right)
      → all (λ e. passes (a_number e)) left ≡ true → passes (a_number d) ≡ false → Breaks L start t KIND i 0 (note_of d)
  -- 9: a key, or a name, isn't whole text, and all left of it are
  key : {l : Level} {i j : ℕ} {m : Node P} (left right : List (Pair P)) (p : Pair P) → Holder L t l i j m → a_mapping m ≡ pass (left ++ p ∷ right)
      → all (λ q. is_some (key_of q)) left ≡ true → key_of p ≡ none → Breaks L start t KEY i j (note_of p.key)
  name_key : {limit i : ℕ} {m : Node P} (left right : List (Pair P)) (p : Pair P) → Names L t limit i m → a_mapping m ≡ pass (left ++ p ∷ right)
      → all (λ q. is_some (key_of q)) left ≡ true → key_of p ≡ none → Breaks L start t KEY i 0 (note_of p.key)
  -- 10: a name isn't UTF-8, and all left of it are; or a format, type or digest isn't
  name_text : {limit i : ℕ} {m : Node P} {ps : List (Pair P)} (left right : List (Named P)) (n : Named P)
      → Names L t limit i m → a_mapping m ≡ pass ps → each (λ k. name_of) 0 ps ≡ pass (left ++ n ∷ right)
      → all (λ o. utf8 o.name.letters) left ≡ true → utf8 n.name.letters ≡ false → Breaks L start t TEXT i 0 n.name.note
  text : {i j : ℕ} {v : Node P} {w : Word P} → Text L t i j v → a_word v ≡ pass w → utf8 w.letters ≡ false → Breaks L start t TEXT i j (note_of v)
  -- 11: a known field, or a name, stands also further left, where none stands twice
  twice : {l : Level} {i j : ℕ} {m : Node P} {q : Pair P} {k : List ℕ} (left right : List (Pair P)) (p : Pair P)
      → Holder L t l i j m → a_mapping m ≡ pass (left ++ p ∷ right) → key_of p ≡ some k → one_of (somes (known L l)) k ≡ true → Among q left → key_of q ≡ some k
      → all (λ n. leb (count n left) 1) (somes (known L l)) ≡ true
      → Breaks L start t TWICE i j (note_of p.key)
  name_twice : {limit i : ℕ} {m : Node P} {ps : List (Pair P)} {o : Named P} (left right : List (Named P)) (n : Named P)
      → Names L t limit i m → a_mapping m ≡ pass ps → each (λ k. name_of) 0 ps ≡ pass (left ++ n ∷ right) → Among o left → o.name.letters ≡ n.name.letters
      → distinct (map (λ x. x.name.letters) left) ≡ true
      → Breaks L start t TWICE i 0 n.name.note
  -- 12: a needed field is absent
  missing : {l : Level} {i j : ℕ} {m : Node P} {ps : List (Pair P)} (e : Entry) → Among e (entries L l) → e.needed ≡ true
      → Holder L t l i j m → a_mapping m ≡ pass ps → field e.called ps ≡ none → Breaks L start t MISSING i j (note_of m)
  -- 13, 14
  version : {v : Node P} {w : Word P} → Field t (version_of L) v → a_word v ≡ pass w → version_shape w.letters ≡ false → Breaks L start t VERSION 0 0 (note_of v)
  major : {v : Node P} {w : Word P} → Field t (version_of L) v → a_word v ≡ pass w → major_one w.letters ≡ false → Breaks L start t MAJOR 0 0 (note_of v)
  -- 15: too many names, or too high a rank
  many : {limit i : ℕ} {m : Node P} {ps : List (Pair P)} {ns : List (Named P)}
      → Names L t limit i m → a_mapping m ≡ pass ps → each (λ k. name_of) 0 ps ≡ pass ns → leb (length ns) limit ≡ false → Breaks L start t COUNT i 0 (note_of m)
  rank_count : {i : ℕ} {m v : Node P} {ds : List (Node P)} {s : List ℕ}
      → Holder L t object i 0 m → Field m (shape_field L) v → a_list v ≡ pass ds → each (λ k. a_number) 0 ds ≡ pass s → leb (length s) rank_limit ≡ false
      → Breaks L start t COUNT i 0 (note_of v)
  -- 16, 17, 18
  dtype : {l : Level} {i j : ℕ} {m v : Node P} {w : Word P} → Holder L t l i j m → Field m (dtype_on L l) v → a_word v ≡ pass w → code_from 0 L.dtypes w.letters ≡ none
      → Breaks L start t DTYPE i j (note_of v)
  encoding : {i j : ℕ} {m v : Node P} {w : Word P} → Holder L t component i j m → Field m (encoding_of L) v → a_word v ≡ pass w → same (ascii "raw") w.letters ≡ false
      → Breaks L start t ENCODING i j (note_of v)
  type : {i j d : ℕ} {m c v : Node P} {x w : Word P} → Holder L t component i j m → Field m (dtype_on L component) c → a_word c ≡ pass x → code_from 0 L.dtypes x.letters ≡ some d
      → Field m (type_of L) v → a_word v ≡ pass w → fits_over d (listed logicals w.letters) ≡ false → Breaks L start t TYPE i j (note_of v)
  -- 19, 20
  align : {i j o : ℕ} {m v : Node P} → Holder L t component i j m → Field m (offset_of L) v → a_number v ≡ pass o → eqb (o % alignment) 0 ≡ false
      → Breaks L start t ALIGN i j (note_of v)
  bounds : {i j o l : ℕ} {m v u : Node P} → Holder L t component i j m → Field m (offset_of L) v → a_number v ≡ pass o → Field m (length_of L) u → a_number u ≡ pass l
      → (leb alignment o && leb (o + l) start) ≡ false → Breaks L start t BOUNDS i j (note_of v)
  -- 21; 22: no component is called as a needed role, or an index role is not plain u64; 23
  rank : {i : ℕ} {s : List ℕ} {shape cs : Node P} {ps : List Part} → Ruled L start t i (ascii "sparse_csr") s shape cs ps → eqb (length s) 2 ≡ false
      → Breaks L start t RANK i 0 (note_of shape)
  absent : {i : ℕ} {f s r : List ℕ} {shape cs : Node P} {ps : List Part} {rs is : List (List ℕ)}
      → Ruled L start t i f s shape cs ps → Among (f, rs, is) roles → Among r rs → all (λ p. not (same r p.called)) ps ≡ true → Breaks L start t ROLE i 0 (note_of cs)
  index : {i : ℕ} {f s r : List ℕ} {shape cs : Node P} {ps : List Part} {rs is : List (List ℕ)} {ρ : Role} {n : Named P}
      → Ruled L start t i f s shape cs ps → Among (f, rs, is) roles → Among r is → role r 0 ps ≡ pass ρ → plain ρ.part ≡ false → Under component_limit cs ρ.index n
      → Breaks L start t ROLE i ρ.index (note_of n.value)
  length' : {i : ℕ} {f s : List ℕ} {shape cs v : Node P} {ps : List Part} {ρ : Role} {n : Named P}
      → Ruled L start t i f s shape cs ps → Rule s ps f ρ false → Under component_limit cs ρ.index n → Field n.value (length_of L) v
      → Breaks L start t LENGTH i ρ.index (note_of v)

-- the names that a refusal gives: the object's where it belongs to an object, the component's where it belongs to a component
pub data Called (L : Layout) {P : Type 0} (t : Node P) : ℕ → ℕ → Option (Word P) → Option (Word P) → Type 0 where
  nobody : Called L t 0 0 none none
  of_object : {os : Node P} {i : ℕ} {n : Named P} → Field t (objects_field L) os → Under object_limit os i n → Called L t i 0 (some n.name) none
  of_component : {os cs : Node P} {i j : ℕ} {n c : Named P} → Field t (objects_field L) os → Under object_limit os i n
      → Field n.value (components_field L) cs → Under component_limit cs j c → Called L t i j (some n.name) (some c.name)

-- what is said of a refusal, in all
pub record Said (L : Layout) {P : Type 0} (start : ℕ) (t : Node P) (x o c : ℕ) (object component : Option (Word P)) (w : P) : Type 0 where
  pub breaks : Breaks L start t x o c w
  pub called : Called L t o c object component
