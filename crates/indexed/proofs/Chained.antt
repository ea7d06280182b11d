-- The pairs of a map that was read, one after the other; and where the pair of an index stands.
use Prim.Native.Nat.{ℕ, zero, suc, ◌+◌, ◌≤◌}
use native.Mathlib.Omega.{arith}
use mathlib.Core.List.{List, [], ◌∷◌}
use mathlib.Core.Bool.{Bool, true, false, cond}
use mathlib.Core.Option.{some}
use mathlib.Core.Path.{◌≡◌, refl, sym, ap, ◌∙◌, subst}
use lib.ListN.{length, drop, length-drop}
use lib.Seq.{drop-drop}
use lib.Dec.{leb, eqb}
use Rattle.meaning.specs.Tree.{Node, Pair, note_of, pair_list-pairs}
use Rattle.meaning.specs.Check.{Check, pass, fault}
use Rattle.meaning.specs.Refusal.{KIND}
use Rattle.meaning.specs.Kind as kinds
use Rattle.meaning.specs.Kind.{Kind, kind, a_mapping, as_mapping}
use Rattle.meaning.specs.Read.{Argument, known, indefinite, Major, unsigned, negative, byte_string, text_string, array_of, map_of, tagged, special, major_of, pair, item}
use Rattle.walk.specs.Reading.{Ends, ends, Reads, Chain}
use Rattle.walk.proofs.Chains.{ate, counted, until-broken, pairs-chained}
use Rattle.walk.proofs.ReadSays.{Says, KindSays, kind-says, Stood, sized, loose, stood, nothing_read}
use Rattle.fields.specs.Slots.{Stands}
use Rattle.fields.proofs.Stands.{stands_at}
use Rattle.entry.specs.Nth.{nth}

-- pairs from some place of s on
pub record Chained (d : ℕ) (s : List ℕ) (ps : List (Pair Ends)) : Type 0 where
  pub at : ℕ
  pub within : at ≤ length s
  pub rest : List ℕ
  pub chain : Chain d (drop at s) ps rest

never_both : {ps : List (Pair Ends)} {c : Check (List (Pair Ends))} → c ≡ fault KIND → c ≡ pass ps → ⊥
never_both e h = let z : ◌≡◌ {A = ℕ} 0 1 = cc in omega arith

-- only a map is a map
no_table : (m : Major) (a : Argument) (k : Kind Ends) (ps : List (Pair Ends)) → KindSays m a k → as_mapping k ≡ pass ps → m ≡ map_of
unfolding as_mapping
no_table unsigned (known w n) k ps h e = absurd (let z : as_mapping k ≡ fault KIND = ap as_mapping h in never_both z e)
no_table unsigned indefinite k ps h e = absurd h
no_table negative (known w n) k ps h e = absurd (let z : as_mapping k ≡ fault KIND = ap as_mapping h in never_both z e)
no_table negative indefinite k ps h e = absurd h
no_table byte_string a k ps h e = absurd (let z : as_mapping k ≡ fault KIND = ap as_mapping h in never_both z e)
no_table text_string (known w n) k ps h e = absurd (let z : as_mapping k ≡ fault KIND = ap as_mapping h.2 in never_both z e)
no_table text_string indefinite k ps h e = absurd (let z : as_mapping k ≡ fault KIND = ap as_mapping h in never_both z e)
no_table array_of a k ps h e = absurd (let z : as_mapping k ≡ fault KIND = ap as_mapping h.1 in never_both z e)
no_table map_of a k ps h e = refl
no_table tagged (known w n) k ps h e = absurd (let z : as_mapping k ≡ fault KIND = ap as_mapping h in never_both z e)
no_table tagged indefinite k ps h e = absurd h
no_table special (known w n) k ps h e = absurd (let z : as_mapping k ≡ fault KIND = ap as_mapping h ∙ two (leb w 1) (eqb n 22) in never_both z e)
  where
    two : (b c : Bool) → as_mapping {P = Ends} (cond b (cond c kinds.null kinds.another) kinds.another) ≡ fault KIND
    two true true = refl
    two true false = refl
    two false c = refl
no_table special indefinite k ps h e = absurd h

module _ (d : ℕ) where
  same-pairs : {k : Kind Ends} {ps qs : List (Pair Ends)} → k ≡ kinds.mapping qs → as_mapping k ≡ pass ps → qs ≡ ps
  unfolding as_mapping
  same-pairs {k} {ps} {qs} h e = let z : pass qs ≡ pass ps = sym (ap as_mapping h) ∙ e in cc

  -- the map's content stands at q
  content-chained : (start q : List ℕ) (t : Node Ends) (r : List ℕ) (a : Argument) → Says start d map_of a q t r → (ps : List (Pair Ends)) → as_mapping (kind t) ≡ pass ps
      → (rest : List ℕ) × Chain d q ps rest
  unfolding kind
  content-chained start q t r (known w n) h ps e =
      let z : h.value ≡ ps = same-pairs (ap kind h.node ∙ ap kinds.mapping (pair_list-pairs h.value)) e in
      (r, subst (λ ps. Chain d q ps r) z (pairs-chained d h.value q r (counted (pair ends (item ends d)) n q h.value r h.is).row))
  content-chained start q t r indefinite h ps e =
      let z : h.value ≡ ps = same-pairs (ap kind h.node ∙ ap kinds.mapping (pair_list-pairs h.value)) e in
      let b = until-broken (pair ends (item ends d)) q h.value r h.is in
      (b.last, subst (λ ps. Chain d q ps b.last) z (pairs-chained d h.value q b.last b.row))

  pub chained : (s : List ℕ) (t : Node Ends) (r : List ℕ) → Reads (suc d) s t r → (ps : List (Pair Ends)) → a_mapping t ≡ pass ps → Chained d s ps
  unfolding a_mapping
  chained [] t r e ps h = absurd (nothing_read d [] t r refl e)
  chained (b ∷ s) t r e ps h = go (stood d b s t r e)
    where
      after-head : (w : ℕ) (a : Argument) → w ≤ length s → Says (b ∷ s) d (major_of b) a (drop w s) t r → Chained d (b ∷ s) ps
      after-head w a l x =
          let z : major_of b ≡ map_of = no_table (major_of b) a (kind t) ps (kind-says (b ∷ s) d (drop w s) t r (major_of b) a x) h in
          let c = content-chained (b ∷ s) (drop w s) t r a (subst (λ m. Says (b ∷ s) d m a (drop w s) t r) z x) ps h in
          record { at = suc w; within = omega arith; rest = c.0; chain = c.1 }

      go : Stood d b s t r → Chained d (b ∷ s) ps
      go (sized w n l _ _ x) = after-head w (known w n) l x
      go (loose _ _ x) = after-head 0 indefinite (omega arith) x

  -- the pair of an index
  pub record PairAt (s : List ℕ) (p : Pair Ends) : Type 0 where
    pub key : Stands d s (length (note_of p.key).start) p.key
    pub value : Stands d s (length (note_of p.value).start) p.value

  module _ (s : List ℕ) where
    pub nth-stands : (ps : List (Pair Ends)) (at : ℕ) → at ≤ length s → (r : List ℕ) → Chain d (drop at s) ps r → (i : ℕ) (p : Pair Ends) → nth i ps ≡ some p → PairAt s p
    unfolding nth
    nth-stands [] at l r h i p e = absurd (let z : ◌≡◌ {A = ℕ} 0 1 = cc in omega arith)
    nth-stands (q ∷ ps) at l r h i p e =
        let k = ate d (drop at s) q.key h.0 h.2 in
        let a : h.0 ≡ drop (at + k.size) s = k.is ∙ drop-drop k.size at s in
        let x : Reads d (drop (at + k.size) s) q.value h.1 = subst (λ m. Reads d m q.value h.1) a h.3 in
        let v = ate d (drop (at + k.size) s) q.value h.1 x in
        let b : h.1 ≡ drop (at + k.size + v.size) s = v.is ∙ drop-drop v.size (at + k.size) s in
        let w : at + k.size ≤ length s = omega (arith, k.fits, length-drop at s) in
        let y : at + k.size + v.size ≤ length s = omega (arith, v.fits, length-drop (at + k.size) s) in
        go i e (record { key = stands_at d s at l q.key h.0 h.2; value = stands_at d s (at + k.size) w q.value h.1 x })
        (λ j. nth-stands ps (at + k.size + v.size) y r (subst (λ m. Chain d m ps r) b h.4) j p)
      where
        go : (i : ℕ) → nth i (q ∷ ps) ≡ some p → PairAt s q → ((j : ℕ) → nth j ps ≡ some p → PairAt s p) → PairAt s p
        go zero e h ih = let z : q ≡ p = cc in subst (PairAt s) z h
        go (suc j) e h ih = ih j e
