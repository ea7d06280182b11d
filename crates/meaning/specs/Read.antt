-- Document 01, "CBOR carried": reading one item, left to right.
-- The state is the bytes left and nothing else: a place is the manifest's end less the number of bytes left. A refusal gives the bytes left at the first byte of
-- the head that was met, and none where the bytes ended early. Every node is annotated by `note start end`, of the bytes left where it begins and where it ends.
use Rattle.std.specs.Prelude.{ℕ, zero, suc, ◌+◌, ◌-◌, ◌*◌, ◌/◌, ◌%◌, List, [], ◌∷◌, ◌++◌, Bool, true, false, cond, ◌&&◌, length, take, drop, get_or, eqb, leb, ltb}
use Rattle.meaning.specs.Refusal.{CBOR, DEEP}
use Rattle.meaning.specs.Limit.{depth_limit}
use Rattle.meaning.specs.Tree.{Node, uint, nint, bytes, text, chunked_bytes, chunked_text, array, dict, tag, simple, float, Pair, nodes, pairs}

-- what was read and the bytes left; or a refusal number and the bytes left where it was met
pub data Outcome (A : Type 0) : Type 0 where
  got : A → List ℕ → Outcome A
  refused : ℕ → List ℕ → Outcome A

abbrev pub Reader : Type 0 → Type 0
Reader A = List ℕ → Outcome A

infixl 10 ◌>>=◌
module _ {A B : Type 0} where
  abbrev pub after : Outcome A → (A → Reader B) → Outcome B
  after (got a s) k = k a s
  after (refused n s) k = refused n s

  abbrev pub ◌>>=◌ : Reader A → (A → Reader B) → Reader B
  ◌>>=◌ m k s = after (m s) k

module _ {A : Type 0} where
  abbrev pub pure : A → Reader A
  pure a s = got a s

  -- the head that begins at these bytes is malformed, or malformed where it stands
  abbrev pub malformed : List ℕ → Reader A
  malformed start s = refused CBOR start

  abbrev pub ended_early : Reader A
  ended_early s = refused CBOR []

unfoldable pub here : Reader (List ℕ)
here s = got s s

unfoldable pub byte : Reader ℕ
byte [] = refused CBOR []
byte (b ∷ s) = got b s

-- n bytes
unfoldable pub run : ℕ → Reader (List ℕ)
run n s = cond (leb n (length s)) (got (take n s) (drop n s)) (refused CBOR [])

-- k bytes as a number, the most significant first
unfoldable pub number : ℕ → ℕ → Reader ℕ
number zero acc = pure acc
number (suc k) acc = do
  b ← byte
  number k (256 * acc + b)

-- is the break byte next? It is taken if so.
unfoldable pub stop : Reader Bool
stop [] = refused CBOR []
stop (b ∷ s) = cond (eqb b 255) (got true s) (got false (b ∷ s))

module _ {A : Type 0} (m : Reader A) where
  unfoldable pub times : ℕ → Reader (List A)
  times zero = pure []
  times (suc n) = do
    x ← m
    xs ← times n
    pure (x ∷ xs)

  unfoldable pub until_break : ℕ → Reader (List A)
  until_break zero = ended_early
  until_break (suc fuel) = do
    done ← stop
    cond done (pure []) (do
      x ← m
      xs ← until_break fuel
      pure (x ∷ xs))

  -- each turn takes a byte at least, so this is fuel enough
  unfoldable pub to_break : Reader (List A)
  to_break s = until_break (length s) s

-- the argument of a head: its width in bytes (0: within the initial byte) and its value; or the mark of an indefinite length
pub data Argument : Type 0 where
  known : ℕ → ℕ → Argument
  indefinite : Argument

unfoldable pub wide : ℕ → Reader Argument
wide w = do
  n ← number w 0
  pure (known w n)

-- the low five bits: a small value; 24 to 27 a width of 1, 2, 4, 8; 28 to 30 malformed; 31 indefinite
unfoldable pub long_arguments : List (List ℕ → Reader Argument)
long_arguments = (λ start. wide 1) ∷ (λ start. wide 2) ∷ (λ start. wide 4) ∷ (λ start. wide 8) ∷ malformed ∷ malformed ∷ malformed ∷ (λ start. pure indefinite) ∷ []

-- of the head that begins at these bytes
unfoldable pub argument : List ℕ → ℕ → Reader Argument
argument start i = cond (ltb i 24) (pure (known 0 i)) (get_or long_arguments (i - 24) malformed start)

-- the top three bits
pub data Major : Type 0 where
  unsigned negative byte_string text_string array_of map_of tagged special : Major

abbrev pub majors : List Major
majors = unsigned ∷ negative ∷ byte_string ∷ text_string ∷ array_of ∷ map_of ∷ tagged ∷ []

unfoldable pub major_of : ℕ → Major
major_of b = get_or majors (b / 32) special

unfoldable pub info_of : ℕ → ℕ
info_of b = b % 32

-- a chunk of an indefinite string: a definite string whose major type has the number m
unfoldable pub definite : List ℕ → Argument → Reader (List ℕ)
definite start (known w n) = run n
definite start indefinite = malformed start

unfoldable pub chunk : ℕ → Reader (List ℕ)
chunk m = do
  start ← here
  h ← byte
  cond (eqb (h / 32) m) (argument start (info_of h) >>= definite start) (malformed start)

abbrev pub joined : List (List ℕ) → List ℕ
joined [] = []
joined (c ∷ cs) = c ++ joined cs

-- RFC 8949, section 3.3: a simple value below 32 takes no second byte
unfoldable pub reserved : ℕ → ℕ → Bool
reserved w n = eqb w 1 && ltb n 32

-- no byte is left
unfoldable pub closed : {A : Type 0} → A → Reader A
closed a [] = got a []
closed a (b ∷ s) = refused CBOR (b ∷ s)

-- an item is due deeper than the limit: the break byte is judged as CBOR, any other byte is DEEP
unfoldable pub beyond : {A : Type 0} → Reader A
beyond [] = refused CBOR []
beyond (b ∷ s) = refused (cond (eqb b 255) CBOR DEEP) (b ∷ s)

module _ {P : Type 0} (note : List ℕ → List ℕ → P) where
  -- the end of an item that began at these bytes
  unfoldable pub close : List ℕ → (P → Node P) → Reader (Node P)
  close start make s = got (make (note start s)) s

  unfoldable pub pair : Reader (Node P) → Reader (Pair P)
  pair item = do
    k ← item
    v ← item
    pure (record { key = k; value = v })

  -- what follows the head: `item` reads what stands one level deeper
  unfoldable pub content : Reader (Node P) → List ℕ → Major → Argument → Reader (Node P)
  content item start unsigned (known w n) = close start (λ p. uint p n)
  content item start unsigned indefinite = malformed start
  content item start negative (known w n) = close start (λ p. nint p n)
  content item start negative indefinite = malformed start
  content item start byte_string (known w n) = do
    bs ← run n
    close start (λ p. bytes p bs)
  content item start byte_string indefinite = do
    cs ← to_break (chunk 2)
    close start (λ p. chunked_bytes p (joined cs))
  content item start text_string (known w n) = do
    bs ← run n
    close start (λ p. text p bs)
  content item start text_string indefinite = do
    cs ← to_break (chunk 3)
    close start (λ p. chunked_text p (joined cs))
  content item start array_of (known w n) = do
    xs ← times item n
    close start (λ p. array p (nodes xs))
  content item start array_of indefinite = do
    xs ← to_break item
    close start (λ p. array p (nodes xs))
  content item start map_of (known w n) = do
    xs ← times (pair item) n
    close start (λ p. dict p (pairs xs))
  content item start map_of indefinite = do
    xs ← to_break (pair item)
    close start (λ p. dict p (pairs xs))
  content item start tagged (known w n) = do
    x ← item
    close start (λ p. tag p n x)
  content item start tagged indefinite = malformed start
  -- simple values of at most one byte more, floats of two, four or eight
  content item start special (known w n) = cond (reserved w n) (malformed start) (close start (λ p. cond (leb w 1) (simple p n) (float p w n)))
  content item start special indefinite = malformed start

  -- an item where d levels are left
  unfoldable pub item : ℕ → Reader (Node P)
  item zero = beyond
  item (suc d) = do
    start ← here
    h ← byte
    a ← argument start (info_of h)
    content (item d) start (major_of h) a

  -- the manifest is one item that fills it exactly
  unfoldable pub manifest : Reader (Node P)
  manifest = item depth_limit >>= closed

-- the annotations that serve: nothing, for the meaning; a span, for the table
unfoldable pub no_note : List ℕ → List ℕ → Unit {0}
no_note s r = tt

-- where an item stands and how many bytes it takes
pub record Span : Type 0 where
  pub place : ℕ
  pub size : ℕ

-- of an item in bytes that end at the place `end`
unfoldable pub span_to : ℕ → List ℕ → List ℕ → Span
span_to end s r = record { place = end - length s; size = length s - length r }

-- the bytes that stand there
abbrev pub bytes_at : List ℕ → Span → List ℕ
bytes_at file s = take s.size (drop s.place file)
