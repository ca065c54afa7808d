use Rattle.triangle_raster.proofs.rates.moving_of.Goals as goal

pub returns-then-not-are_same_from-clause-ten : goal.returns-then-not-are_same_from-clause-ten
returns-then-not-are_same_from-clause-ten c =
    let sizes = c.are_same_from.ensures.ten in record { first_ten = sizes.0; second_ten = sizes.1; third_ten = sizes.2 }

pub returns-then-not-are_same_from-2-clause-ten : goal.returns-then-not-are_same_from-2-clause-ten
returns-then-not-are_same_from-2-clause-ten c =
    let sizes = c.are_same_from.ensures.ten in record { first_ten = sizes.0; second_ten = sizes.1; third_ten = sizes.2 }

pub returns-then-not-are_same_from-3-clause-ten : goal.returns-then-not-are_same_from-3-clause-ten
returns-then-not-are_same_from-3-clause-ten c =
    let sizes = c.are_same_from.ensures.ten in record { first_ten = sizes.0; second_ten = sizes.1; third_ten = sizes.2 }

pub returns-then-not-are_same_from-4-clause-ten : goal.returns-then-not-are_same_from-4-clause-ten
returns-then-not-are_same_from-4-clause-ten c =
    let sizes = c.are_same_from.ensures.ten in record { first_ten = sizes.0; second_ten = sizes.1; third_ten = sizes.2 }

pub returns-else-not-are_same_from-4-clause-ten : goal.returns-else-not-are_same_from-4-clause-ten
returns-else-not-are_same_from-4-clause-ten c =
    let sizes = c.are_same_from.ensures.ten in record { first_ten = sizes.0; second_ten = sizes.1; third_ten = sizes.2 }
