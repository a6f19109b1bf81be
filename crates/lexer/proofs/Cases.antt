-- The items of these sources, computed.
use Rattle.std.proofs.Common.{◌≡◌, map, refl}
use Rattle.std.specs.List.{range_with_len}
use Rattle.lexer.specs.Cases.{cases, classes_in_order, AllHold, CasesHold}
use Rattle.lexer.specs.Classes.{class_of}
use Rattle.lexer.specs.Words.{keyword, symbol, delimiter}
use Rattle.lexer.specs.Items.{items_from}

all_hold : AllHold cases
unfolding cases class_of keyword symbol delimiter items_from
all_hold = (
  refl,
  (
    refl,
    (
      refl,
      (
        refl,
        (
          refl,
          (
            refl,
            (
              refl,
              (
                refl,
                (
                  refl,
                  (
                    refl,
                    (
                      refl,
                      (
                        refl,
                        (
                          refl,
                          (
                            refl,
                            (
                              refl,
                              (
                                refl,
                                (
                                  refl,
                                  (
                                    refl,
                                    (
                                      refl,
                                      (
                                        refl,
                                        (
                                          refl,
                                          (
                                            refl,
                                            (
                                              refl,
                                              (
                                                refl,
                                                (
                                                  refl,
                                                  (
                                                    refl,
                                                    (
                                                      refl,
                                                      (refl, (refl, (refl, (refl, (refl, (refl, tt)))))),
                                                    ),
                                                  ),
                                                ),
                                              ),
                                            ),
                                          ),
                                        ),
                                      ),
                                    ),
                                  ),
                                ),
                              ),
                            ),
                          ),
                        ),
                      ),
                    ),
                  ),
                ),
              ),
            ),
          ),
        ),
      ),
    ),
  ),
)

in_order : map class_of (range_with_len 0 256) ≡ classes_in_order
unfolding class_of classes_in_order
in_order = refl

pub cases_hold : CasesHold
cases_hold = record { classes = in_order; sources = all_hold }
