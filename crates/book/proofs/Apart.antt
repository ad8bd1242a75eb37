-- What it means for two operations to be apart: all that other proofs know of it.
use lib.Bits.{bit_and, and_comm}
use Rattle.std.proofs.Common.{◌∙◌}
use Rattle.book.specs.Apart.{Apart, ApartPass}
use Rattle.book.specs.Model.{Model, Disjoint}
use Rattle.records.specs.declared.Operation.{Operation}
use Rattle.std.proofs.lemmas.Bool.{eqb-true, eq-eqb}

apart_disjoint : (m : Model) (o q : Operation) → Apart m o q → Disjoint m o q
apart_disjoint m o q h = eqb-true (bit_and (m.keys o) (m.keys q)) 0 h

disjoint_sym : (m : Model) (o q : Operation) → Disjoint m o q → Disjoint m q o
disjoint_sym m o q h = and_comm (m.keys q) (m.keys o) ∙ h

pub apart_sym : (m : Model) (o q : Operation) → Apart m o q → Apart m q o
apart_sym m o q h = eq-eqb (bit_and (m.keys q) (m.keys o)) 0 (disjoint_sym m o q (apart_disjoint m o q h))

pub apart_pass : ApartPass
apart_pass m lawful p own o q h =
    let none = apart_disjoint m o q h in
    record {
      page = lawful.same_page p o q own none;
      first = lawful.same_answer p o q own none;
      second = lawful.same_answer p q o own (disjoint_sym m o q none);
    }
