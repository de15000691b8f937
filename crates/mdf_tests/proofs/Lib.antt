mod Begins
