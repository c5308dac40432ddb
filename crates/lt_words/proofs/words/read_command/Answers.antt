use Rattle.std.proofs.Common.{[], ◌∷◌, inl, inr, refl, subst}
use Rattle.lt_words.specs.declared.words.Kind.TheVariants as kind
use Rattle.lt_words.specs.Grammar.{texts}
use Rattle.lt_words.specs.Parts.{HasFront, kind_word}
use Rattle.lt_words.proofs.Tails.{fault_above}
use Rattle.lt_words.proofs.words.read_command.Goals as goal

pub returns-in_err-read_alone-in-Principal-clause-fault : goal.returns-in_err-read_alone-in-Principal-clause-fault
returns-in_err-read_alone-in-Principal-clause-fault c =
    let ws = texts c.args.words.now in
    fault_above c.from_residual.result c.in_err-read_alone-in-Principal.field-0.0 ws c.from_residual.ensures.1 (c.in_err-read_alone-in-Principal.ensures.fault kind.Principal (inl refl) (subst (λ k. HasFront ws (kind_word k ∷ [])) c.in-Principal.is c.requires))

pub returns-in_err-read_alone-in-Check-clause-fault : goal.returns-in_err-read_alone-in-Check-clause-fault
returns-in_err-read_alone-in-Check-clause-fault c =
    let ws = texts c.args.words.now in
    fault_above c.from_residual-in_err-read_alone-in-Check.result c.in_err-read_alone-in-Check.field-0.0 ws c.from_residual-in_err-read_alone-in-Check.ensures.1 (c.in_err-read_alone-in-Check.ensures.fault kind.Check (inr (inl refl)) (subst (λ k. HasFront ws (kind_word k ∷ [])) c.in-Check.is c.requires))

pub returns-in_err-steps-in-Locate-clause-fault : goal.returns-in_err-steps-in-Locate-clause-fault
returns-in_err-steps-in-Locate-clause-fault c =
    let ws = texts c.args.words.now in
    fault_above c.from_residual-in_err-steps-in-Locate.result c.in_err-steps-in-Locate.field-0.0 ws c.from_residual-in_err-steps-in-Locate.ensures.1 (c.in_err-steps-in-Locate.ensures.fault kind.Locate (inl refl) (subst (λ k. HasFront ws (kind_word k ∷ [])) c.in-Locate.is c.requires))

pub returns-in_err-steps-in-Cover-clause-fault : goal.returns-in_err-steps-in-Cover-clause-fault
returns-in_err-steps-in-Cover-clause-fault c =
    let ws = texts c.args.words.now in
    fault_above c.from_residual-in_err-steps-in-Cover.result c.in_err-steps-in-Cover.field-0.0 ws c.from_residual-in_err-steps-in-Cover.ensures.1 (c.in_err-steps-in-Cover.ensures.fault kind.Cover (inr (inl refl)) (subst (λ k. HasFront ws (kind_word k ∷ [])) c.in-Cover.is c.requires))

pub returns-in_err-steps-in-Shortest-clause-fault : goal.returns-in_err-steps-in-Shortest-clause-fault
returns-in_err-steps-in-Shortest-clause-fault c =
    let ws = texts c.args.words.now in
    fault_above c.from_residual-in_err-steps-in-Shortest.result c.in_err-steps-in-Shortest.field-0.0 ws c.from_residual-in_err-steps-in-Shortest.ensures.1 (c.in_err-steps-in-Shortest.ensures.fault kind.Shortest (inr (inr refl)) (subst (λ k. HasFront ws (kind_word k ∷ [])) c.in-Shortest.is c.requires))

pub returns-in_ok-read_alone-in-Principal-clause-command : goal.returns-in_ok-read_alone-in-Principal-clause-command
returns-in_ok-read_alone-in-Principal-clause-command c =
    let ok = c.in_ok-read_alone-in-Principal.ensures in
    (ok.dimension, ok.words (kind_word kind.Principal) (subst (λ k. HasFront (texts c.args.words.now) (kind_word k ∷ [])) c.in-Principal.is c.requires))

pub returns-in_ok-read_alone-in-Check-clause-command : goal.returns-in_ok-read_alone-in-Check-clause-command
returns-in_ok-read_alone-in-Check-clause-command c =
    let ok = c.in_ok-read_alone-in-Check.ensures in
    (ok.dimension, ok.words (kind_word kind.Check) (subst (λ k. HasFront (texts c.args.words.now) (kind_word k ∷ [])) c.in-Check.is c.requires))

pub returns-in_err-read_alone-in-Merge-clause-fault : goal.returns-in_err-read_alone-in-Merge-clause-fault
returns-in_err-read_alone-in-Merge-clause-fault c =
    let ws = texts c.args.words.now in
    fault_above c.from_residual-in_err-read_alone-in-Merge.result c.in_err-read_alone-in-Merge.field-0.0 ws c.from_residual-in_err-read_alone-in-Merge.ensures.1 (c.in_err-read_alone-in-Merge.ensures.fault kind.Merge (inr (inr (inl refl))) (subst (λ k. HasFront ws (kind_word k ∷ [])) c.in-Merge.is c.requires))

pub returns-in_ok-read_alone-in-Merge-clause-command : goal.returns-in_ok-read_alone-in-Merge-clause-command
returns-in_ok-read_alone-in-Merge-clause-command c =
    let ok = c.in_ok-read_alone-in-Merge.ensures in
    (ok.dimension, ok.words (kind_word kind.Merge) (subst (λ k. HasFront (texts c.args.words.now) (kind_word k ∷ [])) c.in-Merge.is c.requires))

pub returns-in_err-read_alone-in-Convert-clause-fault : goal.returns-in_err-read_alone-in-Convert-clause-fault
returns-in_err-read_alone-in-Convert-clause-fault c =
    let ws = texts c.args.words.now in
    fault_above c.from_residual-in_err-read_alone-in-Convert.result c.in_err-read_alone-in-Convert.field-0.0 ws c.from_residual-in_err-read_alone-in-Convert.ensures.1 (c.in_err-read_alone-in-Convert.ensures.fault kind.Convert (inr (inr (inr refl))) (subst (λ k. HasFront ws (kind_word k ∷ [])) c.in-Convert.is c.requires))

pub returns-in_ok-read_alone-in-Convert-clause-command : goal.returns-in_ok-read_alone-in-Convert-clause-command
returns-in_ok-read_alone-in-Convert-clause-command c =
    let ok = c.in_ok-read_alone-in-Convert.ensures in
    (ok.dimension, ok.words (kind_word kind.Convert) (subst (λ k. HasFront (texts c.args.words.now) (kind_word k ∷ [])) c.in-Convert.is c.requires))
