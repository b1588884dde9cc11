mod Excluding
