-- Document 01, "Refusal numbers". An answer of 0 is no refusal.
use Rattle.std.specs.Prelude.{ℕ}

abbrev pub SHORT : ℕ
SHORT = 1

abbrev pub HEADER : ℕ
HEADER = 2

abbrev pub FOOTER : ℕ
FOOTER = 3

abbrev pub BIG : ℕ
BIG = 4

abbrev pub FIT : ℕ
FIT = 5

abbrev pub CBOR : ℕ
CBOR = 6

abbrev pub DEEP : ℕ
DEEP = 7

abbrev pub KIND : ℕ
KIND = 8

abbrev pub KEY : ℕ
KEY = 9

abbrev pub TEXT : ℕ
TEXT = 10

abbrev pub TWICE : ℕ
TWICE = 11

abbrev pub MISSING : ℕ
MISSING = 12

abbrev pub VERSION : ℕ
VERSION = 13

abbrev pub MAJOR : ℕ
MAJOR = 14

abbrev pub COUNT : ℕ
COUNT = 15

abbrev pub DTYPE : ℕ
DTYPE = 16

abbrev pub ENCODING : ℕ
ENCODING = 17

abbrev pub TYPE : ℕ
TYPE = 18

abbrev pub ALIGN : ℕ
ALIGN = 19

abbrev pub BOUNDS : ℕ
BOUNDS = 20

abbrev pub RANK : ℕ
RANK = 21

abbrev pub ROLE : ℕ
ROLE = 22

abbrev pub LENGTH : ℕ
LENGTH = 23

abbrev pub ROOM : ℕ
ROOM = 24

abbrev pub ROW : ℕ
ROW = 25

abbrev pub INDEX : ℕ
INDEX = 26

-- document 02, Request 02
abbrev pub PLAN : ℕ
PLAN = 27

-- Request 11
abbrev pub BUSY : ℕ
BUSY = 28
