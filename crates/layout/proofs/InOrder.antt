-- Pieces of writing in order: room for each after those before it, of which the last comes first, and all of them laid. Assumes nothing.
use Prim.Native.Nat.{ℕ}
use mathlib.Core.List.{List, ◌++◌}
use Rattle.emit.specs.Laid.{Room, Laid}
use Rattle.emit.proofs.LaidPieces.{room-first, room_next, then}

pub room-second : {fs bs xs ys : List ℕ} {at p : ℕ} (rest : List ℕ) → Laid fs at xs ys p → Room (fs ++ (bs ++ rest)) at xs → Room bs p ys
room-second rest a h = room-first rest (room_next a h)

module _ {fs bs cs xs ys zs : List ℕ} {at p q : ℕ} where
  pub room-third : (rest : List ℕ) → Laid bs p ys zs q → Laid fs at xs ys p → Room (fs ++ (bs ++ (cs ++ rest))) at xs → Room cs q zs
  room-third rest b a h = room-second rest b (room_next a h)

  pub room-last-of-three : Laid bs p ys zs q → Laid fs at xs ys p → Room (fs ++ (bs ++ cs)) at xs → Room cs q zs
  room-last-of-three b a h = room_next b (room_next a h)

  pub three-laid : {us : List ℕ} {r : ℕ} → Laid fs at xs ys p → Laid bs p ys zs q → Laid cs q zs us r → Laid (fs ++ (bs ++ cs)) at xs us r
  three-laid a b c = then a (then b c)

  module _ {ds us : List ℕ} {r : ℕ} where
    pub room-fourth : (rest : List ℕ) → Laid cs q zs us r → Laid bs p ys zs q → Laid fs at xs ys p → Room (fs ++ (bs ++ (cs ++ (ds ++ rest)))) at xs → Room ds r us
    room-fourth rest c b a h = room-second rest c (room_next b (room_next a h))

    module _ {es vs : List ℕ} {s : ℕ} where
      pub room-last-of-five : Laid ds r us vs s → Laid cs q zs us r → Laid bs p ys zs q → Laid fs at xs ys p → Room (fs ++ (bs ++ (cs ++ (ds ++ es)))) at xs → Room es s vs
      room-last-of-five d c b a h = room_next d (room_next c (room_next b (room_next a h)))

      pub five-laid : {ws : List ℕ} {t : ℕ} → Laid fs at xs ys p → Laid bs p ys zs q → Laid cs q zs us r → Laid ds r us vs s → Laid es s vs ws t → Laid (fs ++ (bs ++ (cs ++ (ds ++ es)))) at xs ws t
      five-laid a b c d e = then a (then b (then c (then d e)))
