-- What is known of an operation by what it is admitted to ask.
use Rattle.std.specs.Prelude.{◌≡◌, ℕ, ◌<◌, ◌≤◌, true, false, not, ◌&&◌, ◌⊎◌, List, Ok, Err, Result, ◌==◌, nat_le, ◌≢◌, refl}
use Rattle.std.proofs.Common.{inl, inr, ap, sym, subst, ◌∙◌, arith}
use Rattle.records.specs.declared.Operation.{Operation}
use Rattle.roll.specs.Asking.{entry_named, entry_to_write, token_appointed, writing, looking, asked, of_roll}
use Rattle.roll.specs.Roll.{entry, stands, admitted}
use Rattle.roll.specs.declared.asking.Ask.{Ask}
use Rattle.roll.specs.declared.asking.Ask.TheVariants.{Other, Write, Read}
use Rattle.roll.specs.declared.refusals.Refused.{Refused}
use Rattle.std.proofs.lemmas.Bool.{and_parts, both_ways, cases_Bool, cond_both, eqb-true, eqb-false, leb-true, not-true}

-- one of the roll's own, of entry a
pub record AtEntry (o : Operation) (a : ℕ) : Type 0 where
  pub own : of_roll o ≡ true
  pub is : a ≡ o.a
  pub there : a < 16

-- an appointment, or a removal, which writes 0
abbrev pub Writes : Operation → ℕ → Type 0
Writes o token = (o.kind ≡ 1) ⊎ ((o.kind ≡ 2) × (token ≡ 0))

-- What an operation is that asks this.
abbrev pub Asks : Operation → Result Ask Refused → Type 0
Asks o (Ok Other) = of_roll o ≡ false
Asks o (Ok (Write a token)) = AtEntry o a × (o.grant ≡ 0) × Writes o token
Asks o (Ok (Read a)) = AtEntry o a × (o.kind ≡ 3)
Asks o (Err r) = Unit {0}

module _ (o : Operation) where
  own_kind : (kind : ℕ) → o.kind ≡ kind → (nat_le 1 kind && nat_le kind 3) ≡ true → of_roll o ≡ true
  own_kind kind is own = ap (λ k. nat_le 1 k && nat_le k 3) is ∙ own

  not_own : ((o.kind == 1) ≡ false) → ((o.kind == 2) ≡ false) → ((o.kind == 3) ≡ false) → of_roll o ≡ false
  not_own one two three = elim (cases_Bool (of_roll o)) [
    | inr other ↦ other
    | inl own ↦
        let both = and_parts (nat_le 1 o.kind) (nat_le o.kind 3) own in
        let low = leb-true 1 o.kind both.0 in
        let high = leb-true o.kind 3 both.1 in
        absurd (eqb-false o.kind 3 three (omega (arith, eqb-false o.kind 1 one, eqb-false o.kind 2 two)))
  ]

  writes : of_roll o ≡ true → (token : Result ℕ Refused) → ((n : ℕ) → token ≡ Ok n → Writes o n) → Asks o (writing (entry_to_write o) token)
  writes own token kind =
      cond_both (o.grant == 0) _ _ (λ a. Asks o (writing a token))
      (λ chief. cond_both (nat_le 1 o.a && nat_le o.a 15) _ _ (λ a. Asks o (writing a token))
      (λ named. filled (eqb-true o.grant 0 chief) (leb-true o.a 15 (and_parts (nat_le 1 o.a) (nat_le o.a 15) named).1) token kind)
      (λ _. tt)) (λ _. tt)
    where
      filled : o.grant ≡ 0 → o.a ≤ 15 → (token : Result ℕ Refused) → ((n : ℕ) → token ≡ Ok n → Writes o n) → Asks o (writing (Ok o.a) token)
      filled chief low (Ok n) kind = (record { own = own; is = refl; there = omega arith }, chief, kind n refl)
      filled chief low (Err r) kind = tt

  reads : of_roll o ≡ true → o.kind ≡ 3 → Asks o (looking (entry_named o))
  reads own kind =
      cond_both (nat_le o.a 15) _ _ (λ a. Asks o (looking a))
      (λ low. (record { own = own; is = refl; there = let l = leb-true o.a 15 low in omega arith }, kind))
      (λ _. tt)

  asks : Asks o (asked o)
  asks =
      cond_both (o.kind == 1) (writing (entry_to_write o) (token_appointed o)) _ (Asks o)
      (λ one. let kind = eqb-true o.kind 1 one in writes (own_kind 1 kind refl) (token_appointed o) (λ n _. inl kind))
      (λ not_1. cond_both (o.kind == 2) (writing (entry_to_write o) none) _ (Asks o)
      (λ two. let kind = eqb-true o.kind 2 two in writes (own_kind 2 kind refl) none (λ n is. inr (kind, removes n is)))
      (λ not_2. cond_both (o.kind == 3) (looking (entry_named o)) (Ok Other) (Asks o)
      (λ three. let kind = eqb-true o.kind 3 three in reads (own_kind 3 kind refl) kind)
      (λ not_3. not_own not_1 not_2 not_3)))
    where
      written : Result ℕ Refused → ℕ
      written (Ok n) = n
      written (Err r) = 0

      -- what a removal writes
      none : Result ℕ Refused
      none = Ok 0

      removes : (n : ℕ) → none ≡ Ok n → n ≡ 0
      removes n is = sym (ap written is)

  pub admits : (tokens : List ℕ) → Asks o (admitted tokens o)
  admits tokens = cond_both (stands tokens o) _ _ (Asks o) (λ _. asks) (λ _. tt)

module _ (tokens : List ℕ) (o : Operation) where
  as_asked : (x : Result Ask Refused) → admitted tokens o ≡ x → Asks o x
  as_asked x e = subst (Asks o) e (admits o tokens)

  pub write_at : (a v : ℕ) → admitted tokens o ≡ Ok (Write a v) → AtEntry o a
  write_at a v e = (as_asked _ e).0

  pub read_at : (a : ℕ) → admitted tokens o ≡ Ok (Read a) → AtEntry o a
  read_at a e = (as_asked _ e).0

  pub below_not_own : admitted tokens o ≡ Ok Other → of_roll o ≡ false
  below_not_own e = as_asked _ e

  -- the chief alone writes
  pub write_chief : (a v : ℕ) → admitted tokens o ≡ Ok (Write a v) → o.grant ≡ 0
  write_chief a v e = (as_asked _ e).1

  pub write_kind : (a v : ℕ) → admitted tokens o ≡ Ok (Write a v) → (o.kind ≡ 1) ⊎ (o.kind ≡ 2)
  write_kind a v e = elim ((as_asked _ e).2) [ inl one ↦ inl one | inr two ↦ inr two.0 ]

  -- a removal writes 0
  pub removal_writes : (a v : ℕ) → o.kind ≡ 2 → admitted tokens o ≡ Ok (Write a v) → v ≡ 0
  removal_writes a v k e = elim ((as_asked _ e).2) [ inl one ↦ omega arith | inr two ↦ two.1 ]

  pub removal_reads : (a : ℕ) → o.kind ≡ 2 → admitted tokens o ≢ Ok (Read a)
  removal_reads a k e = let three = (as_asked _ e).1 in omega arith

  pub removal_below : o.kind ≡ 2 → admitted tokens o ≢ Ok Other
  removal_below k e = both_ways (of_roll o) (below_not_own e) (own_kind o 2 k refl)

  -- no grant stands at an empty entry
  pub empty_stands : entry tokens o.grant ≡ 0 → stands tokens o ≡ false
  empty_stands empty = elim (cases_Bool (stands tokens o)) [
    | inr fallen ↦ fallen
    | inl stand ↦
        let some = and_parts (not (o.token == 0)) (entry tokens o.grant == o.token) (and_parts (nat_le o.grant 15) _ stand).1 in
        let same = eqb-true (entry tokens o.grant) o.token some.1 in
        absurd (eqb-false o.token 0 (not-true (o.token == 0) some.0) (sym same ∙ empty))
  ]
