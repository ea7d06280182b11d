-- Request 08: the sentence about a refused file, one line; "accepted" for one that is not.
use Rattle.std.specs.Prelude.{ℕ, ◌+◌, ◌-◌, List, [], ◌∷◌, ◌++◌, cond, ◌&&◌, get_or, eqb}
use Prim.Native.String.{String}
use Rattle.meaning.specs.Text.{ascii}
use Rattle.meaning.specs.Refusal.{ROOM}
use Rattle.meaning.specs.Layouts.{Layout}
use Rattle.meaning.specs.Listing.{decimal, shown_text}
use Rattle.meaning.specs.Read.{Span, bytes_at}
use Rattle.explained.specs.Explain.{Explanation, explain}

-- 01's name of each refusal and why it is given, in the order of the numbers; the frame's bytes are the layout's
unfoldable pub reasons : Layout → List (List ℕ)
reasons L =
    (ascii "SHORT: file under " ++ decimal L.least ++ ascii " bytes")
    ∷ ascii "HEADER: first 8 wrong"
    ∷ ascii "FOOTER: last 8 wrong"
    ∷ ascii "BIG: manifest size over 16777216"
    ∷ (ascii "FIT: manifest size 0 or over file length - " ++ decimal L.least)
    ∷ ascii "CBOR: malformed, ended early, or bytes left over"
    ∷ ascii "DEEP: an item at depth 33 begins"
    ∷ ascii "KIND: known value of another kind, or chunked text in a known place"
    ∷ ascii "KEY: a key or name isn't whole text"
    ∷ ascii "TEXT: name, format, type or digest isn't UTF-8"
    ∷ ascii "TWICE: a known field or a name repeated"
    ∷ ascii "MISSING: required field absent"
    ∷ ascii "VERSION: not two or three runs of 1 to 9 digits joined by dots, without leading zeros"
    ∷ ascii "MAJOR: major isn't 1"
    ∷ ascii "COUNT: over 1024 objects, 16 components an object or rank 8"
    ∷ ascii "DTYPE: not one of the 13 dtypes"
    ∷ ascii "ENCODING: present and not raw"
    ∷ ascii "TYPE: listed type over another dtype"
    ∷ ascii "ALIGN: offset not a multiple of 64"
    ∷ ascii "BOUNDS: offset under 64, or offset + length over the manifest start"
    ∷ ascii "RANK: sparse_csr not of rank 2"
    ∷ ascii "ROLE: needed role absent, or index role not plain u64"
    ∷ ascii "LENGTH: length rule broken"
    ∷ ascii "ROOM: lent table too short"
    ∷ []

unfoldable pub reason : Layout → ℕ → List ℕ
reason L n = get_or ([] ∷ reasons L) n []

abbrev pub blank : List ℕ → List ℕ
blank w = 32 ∷ w

-- a name where one is given, shown as in the listing; 0 and 0 means none is
unfoldable pub belongs : String → List ℕ → Span → List ℕ
belongs what file s = cond (eqb s.place 0 && eqb s.size 0) [] (ascii what ++ blank (shown_text (bytes_at file s)))

-- the bytes at fault, from the first to the last; the one before which there is nothing; or the room that is needed
unfoldable pub where' : Explanation → List ℕ
where' e =
    cond (eqb e.number ROOM) (ascii ";" ++ (blank (decimal e.room) ++ ascii " numbers needed"))
    (cond (eqb e.place.size 0) (ascii "; at byte" ++ blank (decimal e.place.place))
    (ascii "; bytes" ++ (blank (decimal e.place.place) ++ (ascii " to" ++ blank (decimal (e.place.place + e.place.size - 1))))))

unfoldable pub refused_line : Layout → List ℕ → Explanation → List ℕ
refused_line L file e =
    ascii "refused" ++ (blank (decimal e.number) ++ (blank (reason L e.number)
    ++ (belongs "; object" file e.object_name ++ (belongs "; component" file e.component_name ++ (where' e ++ 10 ∷ [])))))

unfoldable pub said : Layout → List ℕ → Explanation → List ℕ
said L file e = cond (eqb e.number 0) (ascii "accepted" ++ 10 ∷ []) (refused_line L file e)

-- of a file read into a table of so many numbers
unfoldable pub sentence : Layout → List ℕ → ℕ → List ℕ
sentence L file room = said L file (explain L file room)
