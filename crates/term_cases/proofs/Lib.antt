mod SmallSides
